use Rattle.replay.specs.Going.{Tells, responses_told}
use Rattle.replay.proofs.day.Day.responses.Given as goal

abbrev pub invariant-loop-task : goal.invariant-loop-task
invariant-loop-task g l = Tells l.initial.self (responses_told l.initial.self l.task) l.self
