use Rattle.std.proofs.Common.{rules}
use Rattle.analysis.specs.PlanOf.{plan_floor}
use Rattle.dispatch.proofs.Starts.{all-ready}
use Rattle.dispatch.proofs.dispatcher.Dispatcher.begin.Goals as goal

pub returns : goal.returns
returns g c = record {
  plan = c.fresh.ensures.plan;
  calls = search rules;
  started = c.fresh.ensures.started _ (all-ready (plan_floor c.args.plan.now) (g.R.Resource.meaning.seen c.args.resource.now) _ (search rules) c.requires);
}
