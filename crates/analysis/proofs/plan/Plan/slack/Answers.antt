use Rattle.std.proofs.Common.{◌≡◌, rules, ap, arith}
use Rattle.taskset.specs.declared.task.Figures.{Figures}
use Rattle.analysis.specs.FloorOf.{floor_of}
use Rattle.analysis.specs.PlanOf.{plan_bound}
use Rattle.analysis.proofs.plan.Plan.slack.Goals as goal

pub returns : goal.returns
unfolding floor_of
returns c =
    let bound : c.unwrap_or-bound.result ≡ plan_bound c.args.self.now c.args.task = search rules in
    let deadline = ap (λ (f : Figures). f.deadline) c.figures_at.ensures in
    omega (arith, c.saturating_sub.ensures, deadline)
