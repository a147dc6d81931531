use Rattle.std.proofs.Common.{rules, tests}
use Rattle.analysis.specs.PlanOf.{plan_floor}
use Rattle.dispatch.specs.Start.{differs}
use Rattle.sets.proofs.Found.{lowest-found}
use Rattle.dispatch.proofs.dispatcher.start.other_cost.Goals as goal

pub returns : goal.returns
returns g c = lowest-found 8 (differs (plan_floor c.args.plan.now) (g.R.Resource.meaning.seen c.args.resource.now)) _ _ _ c.find.ensures.ran (λ x b q k. search (rules, tests))
