use Rattle.std.proofs.Common.{ℕ, ◌-◌, subst}
use Rattle.analysis.specs.Floor.{Floor}
use Rattle.analysis.specs.FloorOf.{floor_of}
use Rattle.analysis.specs.PlanOf.{plan_bound}
use Rattle.analysis.specs.Verdict.{asked_floor, Ready}
use Rattle.analysis.specs.Written.{Written}
use Rattle.analysis.proofs.Verdicts.{plan-asked}
use Rattle.analysis.proofs.analyse.analyse.Goals as goal

pub returns : goal.returns
unfolding floor_of
returns g c =
    let x = g.R.Resource.meaning.seen c.args.resource.now in
    let t = c.args.draft.now in
    let m = c.in_ok-made.made in
    let h = c.in_ok-made.ensures in
    let e = plan-asked t x m h.1 in
    record {
      verdict = (subst (λ (n : ℕ). Ready (asked_floor t x) x.ways n) c.min-room.ensures h.0, λ i l. (plan_bound m i, h.1.bounds i l));
      later = h.1;
      bound_list = subst (λ (f : Floor). Written f.tasks (plan_bound m) c.args.bounds.now c.write_bounds.new.list) e c.write_bounds.ensures;
      slack_list = subst (λ (f : Floor). Written f.tasks (λ i. f.deadline i - plan_bound m i) c.args.slacks.now c.write_slacks.new.list) e c.write_slacks.ensures;
    }
