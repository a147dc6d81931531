use Rattle.replay.specs.Asked.{ticking}
use Rattle.replay.specs.Going.{Goes}
use Rattle.replay.proofs.day.Day.ticks.Given as goal

abbrev pub invariant-loop-turn : goal.invariant-loop-turn
invariant-loop-turn g l = Goes g.R.Resource.meaning.seen (ticking l.turn) l.initial.self l.self
