use Rattle.std.proofs.Common.{◌≡◌, ℕ, ◌+◌, ◌<◌, ◌≤◌, min, length}
use Rattle.analysis.specs.PlanOf.{plan_floor}
use Rattle.dispatch.specs.View.{job_at}
use Rattle.dispatch.proofs.dispatcher.later.grow_ages.Given as goal

abbrev pub invariant-loop-task : goal.invariant-loop-task
invariant-loop-task l = record {
  places : length l.jobs ≡ 16;
  older : (k : ℕ) → k < l.task → (job_at l.jobs k).age ≡ min ((job_at l.initial.jobs k).age + 1) ((plan_floor l.plan).period k);
  others : (k : ℕ) → l.task ≤ k → (job_at l.jobs k).age ≡ (job_at l.initial.jobs k).age;
  left : (k : ℕ) → (job_at l.jobs k).left ≡ (job_at l.initial.jobs k).left;
}
