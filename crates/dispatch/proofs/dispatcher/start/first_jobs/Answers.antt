use Rattle.std.proofs.Common.{◌≡◌, ℕ, ◌%◌, rules, tests, arith, subst, mod-eq_of_lt}
use Rattle.analysis.specs.FloorOf.{floor_of}
use Rattle.dispatch.specs.declared.dispatcher.Job.{Job}
use Rattle.analysis.specs.PlanOf.{plan_figures}
use Rattle.dispatch.specs.View.{job_at}
use Rattle.analysis.proofs.FromFn.{from-each}
use Rattle.dispatch.proofs.Plans.{plan_few}
use Rattle.dispatch.proofs.dispatcher.start.first_jobs.Goals as goal

pub returns : goal.returns
unfolding floor_of
returns c =
    let p = c.args.plan.now in
    let made = from-each (λ (k : ℕ) (j : Job). (j.age ≡ (plan_figures p (k % 16)).period) × (j.left ≡ 0)) _ _ (λ i y q e. search (rules, tests)) 16 c.from_fn.ensures.items in
    record {
      age = λ k l. subst (λ (v : ℕ). (job_at c.from_fn.result k).age ≡ (plan_figures p v).period) (mod-eq_of_lt (omega (arith, plan_few p, l))) (made k (record { age = 0; left = 0 }) (omega (arith, plan_few p, l))).0;
      left = λ k l. (made k (record { age = 0; left = 0 }) (omega (arith, plan_few p, l))).1;
    }
