-- What reading a whole text makes of a table.
use Rattle.std.specs.Prelude.{ℕ, cond, List, [], ◌∷◌, length, Ok, Err, Result, nat_le}
use Rattle.taskset.specs.Table.{Table, nothing}
use Rattle.textparts.specs.Spans.{Span, lines}
use Rattle.tabletext.specs.declared.fault.FaultAt.{FaultAt}
use Rattle.tabletext.specs.declared.fault.LineFault.{LineFault}
use Rattle.tabletext.specs.declared.fault.TextFault.{TextFault}
use Rattle.tabletext.specs.declared.fault.TextFault.TheVariants.{LongText, Line}
use Rattle.tabletext.specs.Lines.{line_read}

-- a line's fault with the line's place
abbrev pub placed : {A : Type 0} → ℕ → Result A LineFault → Result A FaultAt
placed p (Ok a) = Ok a
placed p (Err f) = Err (record { place = p; fault = f })

-- go on with the next lines where a line is read
abbrev pub onward : (Table → Result Table TextFault) → ℕ → Result Table LineFault → Result Table TextFault
onward k p (Ok t) = k t
onward k p (Err f) = Err (Line (record { place = p; fault = f }))

-- the lines in their order, up to the first fault
abbrev pub read_lines : List ℕ → Table → List Span → Result Table TextFault
read_lines text t [] = Ok t
read_lines text t (l ∷ ls) = onward (λ u. read_lines text u ls) l.place (line_read text t l)

-- a text of at most 8,192 bytes, read line by line into a table without a task
abbrev pub read_text : List ℕ → Result Table TextFault
read_text text = cond (nat_le (length text) 8192) (read_lines text nothing (lines 0 text)) (Err LongText)
