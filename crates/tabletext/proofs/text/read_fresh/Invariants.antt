use Rattle.std.proofs.Common.{◌≡◌, length}
use Rattle.textparts.specs.View.{to_come}
use Rattle.tabletext.specs.Read.{read_lines, read_text}
use Rattle.tabletext.proofs.text.read_fresh.Given as goal

abbrev pub invariant-loop-line : goal.invariant-loop-line
invariant-loop-line l = read_text l.text ≡ read_lines l.building.text.now l.building.draft (to_come l.reader)

abbrev pub decreases-loop-line : goal.decreases-loop-line
decreases-loop-line l = length (to_come l.reader)
