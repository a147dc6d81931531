-- What each refusal of a text tells.
use Rattle.std.specs.Prelude.{ℕ, codes}
use Rattle.refusal.specs.Told.{Told}
use Rattle.taskset.specs.Faults.{draft_told}
use Rattle.tabletext.specs.declared.fault.LineFault.{LineFault}
use Rattle.tabletext.specs.declared.fault.LineFault.TheVariants.{StrayByte, OddLine, OddWord, TwiceNamed, Unnamed, Draft}
use Rattle.tabletext.specs.declared.fault.TextFault.{TextFault}
use Rattle.tabletext.specs.declared.fault.TextFault.TheVariants.{LongText, Line}

-- number, detail and word of a line's fault, where the line begins at a place; a draft's fault keeps its number and word, and its detail is the line's place
abbrev pub line_told : ℕ → LineFault → Told
line_told place (StrayByte p) = record { number = 2; detail = p; word = codes "stray byte" }
line_told place OddLine = record { number = 3; detail = place; word = codes "odd line" }
line_told place (OddWord p) = record { number = 4; detail = p; word = codes "odd word" }
line_told place (TwiceNamed p) = record { number = 5; detail = p; word = codes "twice named" }
line_told place (Unnamed p) = record { number = 6; detail = p; word = codes "unnamed" }
line_told place (Draft f) = record { number = (draft_told f).number; detail = place; word = (draft_told f).word }

-- and of a text's
abbrev pub text_told : TextFault → Told
text_told LongText = record { number = 1; detail = 8192; word = codes "long text" }
text_told (Line a) = line_told a.place a.fault
