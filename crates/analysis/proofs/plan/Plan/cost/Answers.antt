use Rattle.analysis.specs.FloorOf.{floor_of}
use Rattle.analysis.proofs.plan.Plan.cost.Goals as goal

pub returns : goal.returns
unfolding floor_of
returns c = c.cost.ensures
