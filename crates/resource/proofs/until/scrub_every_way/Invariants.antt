use Rattle.resource.specs.Until.{EachDone}
use Rattle.resource.proofs.until.scrub_every_way.Given as goal

abbrev pub invariant-loop-way : goal.invariant-loop-way
invariant-loop-way g l = EachDone g.R.Resource.meaning l.initial.r l.way l.r
