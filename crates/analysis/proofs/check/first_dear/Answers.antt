use Rattle.std.proofs.Common.{rules, tests}
use Rattle.sets.proofs.Found.{lowest-found}
use Rattle.analysis.specs.FloorOf.{floor_of}
use Rattle.analysis.specs.PricedFloor.{priced_floor}
use Rattle.analysis.specs.Verdict.{dear}
use Rattle.analysis.proofs.check.first_dear.Goals as goal

pub returns : goal.returns
unfolding floor_of
returns c = lowest-found 8 (dear (priced_floor c.args.floor.now)) _ _ _ c.find.ensures.ran (λ x b q k. search (rules, tests))
