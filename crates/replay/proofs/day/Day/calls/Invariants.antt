use Rattle.std.proofs.Common.{◌≡◌, List, length}
use Rattle.textparts.specs.View.{to_come}
use Rattle.replay.specs.Asked.{Ask, asked_by}
use Rattle.replay.specs.Going.{Goes}
use Rattle.replay.proofs.day.Day.calls.Given as goal

abbrev pub invariant-loop-line : goal.invariant-loop-line
invariant-loop-line g l =
    (more : List Ask → List Ask)
    × ((asks : List Ask) → asked_by (to_come l.reader) (more asks) ≡ asked_by (to_come l.initial.reader) asks)
    × Goes g.R.Resource.meaning.seen more l.initial.self l.self

abbrev pub decreases-loop-line : goal.decreases-loop-line
decreases-loop-line g l = length (to_come l.reader)
