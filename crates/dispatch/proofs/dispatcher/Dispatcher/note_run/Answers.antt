use Rattle.std.proofs.Common.{◌≡◌, ℕ, ◌+◌, ◌-◌, ◌<◌, length, min, cond, eqb, unwrap_or, Bool, refl, ap, ◌∙◌, arith}
use Rattle.runs.specs.Calls.{served, put}
use Rattle.dispatch.specs.View.{floor, state_of, job_at}
use Rattle.dispatch.proofs.Later.{job-put, put-same}
use Rattle.dispatch.proofs.Optionals.{left-value}
use Rattle.dispatch.proofs.Plans.{plan_few, plan-ways}
use Rattle.dispatch.proofs.Ticks.{run-goes}
use Rattle.dispatch.proofs.dispatcher.Dispatcher.note_run.Goals as goal

pub returns : goal.returns
unfolding state_of served
returns c =
    let d = c.args.self.now in
    let i = c.args.task in
    let listed = c.requires.0.1 in
    let there : i < length d.jobs = omega (arith, listed, plan_few d.plan) in
    let left = c.saturating_sub-left.result in
    let less : left ≡ (job_at d.jobs i).left - 1 = c.saturating_sub-left.ensures in
    let last : eqb left 0 ≡ eqb ((job_at d.jobs i).left - 1) 0 = ap (λ (v : ℕ). eqb v 0) less in
    let goes : unwrap_or c.then_some-self.result (floor d).tasks ≡ cond (eqb ((job_at d.jobs i).left - 1) 0) (floor d).tasks i =
    ap (λ o. unwrap_or o (floor d).tasks) c.then_some-self.ensures ∙ left-value left i (floor d).tasks ∙ ap (λ (b : Bool). cond b (floor d).tasks i) last in
    let older = c.grow_ages.ensures in
    let aged = λ (k : ℕ). job-put (λ j. j.age) d.jobs i (record { age = (job_at d.jobs i).age; left = left }) there k ∙ put-same (λ j. (job_at d.jobs j).age) i k in
    run-goes d _ refl i (eqb left 0) c.requires last (record {
      age = λ k l. older.age k l ∙ ap (λ (a : ℕ). min (a + 1) ((floor d).period k)) (aged k);
      left = λ k l. older.left k ∙ job-put (λ j. j.left) d.jobs i _ there k ∙ ap (λ (v : ℕ). put (λ j. (job_at d.jobs j).left) i v k) less;
      holder = goes;
      under = refl;
      ran = goes;
      recorded = λ w k l m. c.records_with-self.ensures w (omega (arith, plan-ways d.plan)) k;
    })
