-- Where a day starts in its input, and what is told where it cannot start.
use Rattle.std.specs.Prelude.{◌≡◌, ℕ, min, List, [], length, take, Some, None, Ok, Err, Option, Result}
use Rattle.std.specs.Option.{unwrap_or}
use Rattle.taskset.specs.Table.{Table}
use Rattle.textparts.specs.Spans.{lines}
use Rattle.tabletext.specs.declared.fault.TextFault.{TextFault}
use Rattle.tabletext.specs.Faults.{text_told}
use Rattle.daycalls.specs.declared.go.Go.{Go}
use Rattle.daycalls.specs.declared.go.Pile.{Pile}
use Rattle.daycalls.specs.Go.{go_found}
use Rattle.daylines.specs.Lines.{with_no_line, with_odd}

-- a start, or where there is none the end of the input, with no resource
abbrev pub or_end : Option Go → ℕ → Go
or_end o end = unwrap_or o (record { place = end; pile = None })

-- where the day of an input starts
abbrev pub start_of : List ℕ → Go
start_of input = or_end (go_found (lines 0 input)) (length input)

-- the table text: all before that
abbrev pub table_text : List ℕ → List ℕ
table_text input = take (min (start_of input).place (length input)) input

-- what is told of a table that was read: where the start names no resource, only the line that should have named one
abbrev pub GoneOn : List ℕ → ℕ → Option Pile → List ℕ → Type 0
GoneOn out place None later = later ≡ with_odd out place
GoneOn out place (Some pile) later = Unit {0}

-- what is told of an input: where its table is refused, the refusal
abbrev pub Replayed : Go → Result Table TextFault → List ℕ → Type 0
Replayed go (Err e) out = out ≡ with_no_line [] (text_told e)
Replayed go (Ok t) out = GoneOn [] go.place go.pile out
