use Rattle.std.proofs.Common.{◌≡◌, ℕ, ◌≤◌, Option, length, ltb, rules, sym, subst, arith}
use Rattle.runs.specs.State.{pending}
use Rattle.dispatch.specs.Optional.{IsFirstBelow}
use Rattle.dispatch.specs.View.{floor, state_of, job_at}
use Rattle.dispatch.proofs.Firsts.{first-among}
use Rattle.dispatch.proofs.dispatcher.Dispatcher.first_job.Goals as goal

pub returns : goal.returns
unfolding pending state_of
returns c =
    let jobs = c.args.self.now.jobs in
    let n = c.from-tasks.result in
    let few : n ≤ length jobs = omega arith in
    let count : n ≡ (floor c.args.self.now).tasks = omega arith in
    let same : c.map.result ≡ c.first_left.result = search rules in
    let found = first-among n jobs (record { age = 0; left = 0 }) (λ j. ltb 0 j.left) c.first_left.result few c.first_left.ensures in
    subst (λ (m : ℕ). IsFirstBelow m (λ k. ltb 0 (job_at jobs k).left) c.map.result) count (subst (λ (o : Option ℕ). IsFirstBelow n (λ k. ltb 0 (job_at jobs k).left) o) (sym same) found)
