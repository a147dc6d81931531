-- The pieces that the code holds, as those of the definitions.
use Rattle.std.specs.Prelude.{◌≡◌, List, [], ◌∷◌, Ok, Err, Result}
use Rattle.textparts.specs.Spans.{Span}
use Rattle.textparts.specs.Tokens.{Token}
use Rattle.textparts.specs.View.{span_of, token_of}
use Rattle.textparts.specs.declared.part.Part.{Part}
use Rattle.textparts.specs.declared.part.Piece.{Piece}
use Rattle.tabletext.specs.declared.fault.LineFault.{LineFault}
use Rattle.tabletext.specs.declared.fault.LineFault.TheVariants.{OddLine}
use Rattle.tabletext.specs.declared.form.Form.{Form}
use Rattle.tabletext.specs.declared.form.Form.TheVariants.{Skipped, Task, Noleak}
use Rattle.tabletext.specs.declared.form.TaskPieces.{TaskPieces}
use Rattle.tabletext.specs.declared.form.PairPieces.{PairPieces}
use Rattle.tabletext.specs.Forms as F

-- an answer's span
abbrev pub spanned : Result Part LineFault → Result Span LineFault
spanned (Ok p) = Ok (span_of p)
spanned (Err e) = Err e

abbrev pub task_of : TaskPieces → F.TaskWords
task_of w = record { name = token_of w.name; period = token_of w.period; budget = token_of w.budget; deadline = token_of w.deadline; ways = token_of w.ways; kind = token_of w.kind }

abbrev pub pair_of : PairPieces → F.PairWords
pair_of w = record { from = token_of w.from; to = token_of w.to }

abbrev pub form_of : Form → F.Form
form_of Skipped = F.skipped
form_of (Task w) = F.task (task_of w)
form_of (Noleak w) = F.noleak (pair_of w)

abbrev pub formed : Result Form LineFault → Result F.Form LineFault
formed (Ok f) = Ok (form_of f)
formed (Err e) = Err e

abbrev pub tasked : Result TaskPieces LineFault → Result F.TaskWords LineFault
tasked (Ok w) = Ok (task_of w)
tasked (Err e) = Err e

abbrev pub pair_ofs : Result PairPieces LineFault → Result F.PairWords LineFault
pair_ofs (Ok w) = Ok (pair_of w)
pair_ofs (Err e) = Err e

-- a piece was asked for where the line has to have one: it is the first of those left, or there is none and the line is odd
abbrev pub Needed : Result Piece LineFault → List Token → List Token → Type 0
Needed (Ok p) ts us = ts ≡ token_of p ∷ us
Needed (Err e) ts us = (ts ≡ []) × (e ≡ OddLine)
