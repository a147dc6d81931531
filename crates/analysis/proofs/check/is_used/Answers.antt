use Rattle.std.proofs.Common.{rules, tests}
use Rattle.sets.proofs.Found.{some-found}
use Rattle.analysis.specs.PricedFloor.{priced_floor}
use Rattle.analysis.proofs.check.is_used.Goals as goal

pub returns : goal.returns
returns c = rw (← c.count.ensures.value) (some-found _ (λ i. (priced_floor c.args.floor.now).uses i c.args.way) _ _ _ c.any.ensures.ran (λ x b q k. search (rules, tests)))
