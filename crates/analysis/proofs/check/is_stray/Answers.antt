use Rattle.std.proofs.Common.{rules, tests, ◌&&◌, leb}
use Rattle.sets.proofs.Found.{some-found}
use Rattle.analysis.specs.FloorOf.{floor_of}
use Rattle.analysis.specs.PricedFloor.{priced_floor}
use Rattle.analysis.specs.Verdict.{strays}
use Rattle.analysis.proofs.check.is_stray.Goals as goal

pub returns : goal.returns
unfolding strays floor_of
returns c = some-found 8 (λ w. leb c.args.ways w && (priced_floor c.args.floor.now).uses c.args.task w) _ _ _ c.any.ensures.ran (λ x b q k. search (rules, tests))
