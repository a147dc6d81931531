use Rattle.std.proofs.Common.{◌<◌, length, Ok, Err, refl, ◌∙◌, arith}
use Rattle.runs.specs.State.{Agree}
use Rattle.runs.specs.Calls.{closed}
use Rattle.runs.specs.History.{finish}
use Rattle.runs.specs.declared.fault.CallFault.TheVariants.{Unlisted, NotRunning}
use Rattle.dispatch.specs.View.{floor, state_of, job_at}
use Rattle.dispatch.proofs.Answered.{finished-refused, finished-closed, finish-unlisted, finish-not-running, finish-closed}
use Rattle.dispatch.proofs.Lasting.{goes-on}
use Rattle.dispatch.proofs.Later.{job-put, put-same}
use Rattle.dispatch.proofs.Optionals.{is-task}
use Rattle.dispatch.proofs.Plans.{plan_few}
use Rattle.dispatch.proofs.dispatcher.Dispatcher.finish.Goals as goal

pub returns-then-task-task_count-clause-goes_on : goal.returns-then-task-task_count-clause-goes_on
returns-then-task-task_count-clause-goes_on c x =
    let d = c.args.self.now in
    let i = c.args.task in
    goes-on d x (finish i (Err Unlisted)) d x refl (finished-refused (floor d) (state_of d) i Unlisted x (finish-unlisted (floor d) (state_of d) i (omega arith)))

pub returns-then-ne-clause-goes_on : goal.returns-then-ne-clause-goes_on
unfolding state_of
returns-then-ne-clause-goes_on c x =
    let d = c.args.self.now in
    let i = c.args.task in
    let listed : i < (floor d).tasks = omega arith in
    goes-on d x (finish i (Err NotRunning)) d x refl
    (finished-refused (floor d) (state_of d) i NotRunning x (finish-not-running (floor d) (state_of d) i listed (grind (arith, is-task (floor d).tasks d.just_run i listed, c.ne.ensures, c.if-ne.true))))

pub returns-clause-goes_on : goal.returns-clause-goes_on
unfolding state_of closed
returns-clause-goes_on c x =
    let d = c.args.self.now in
    let i = c.args.task in
    let listed : i < (floor d).tasks = omega arith in
    let there : i < length d.jobs = omega (arith, plan_few d.plan) in
    let a : Agree (floor d) _ (closed (floor d) i (state_of d)) = record {
      age = λ k l. job-put (λ j. j.age) d.jobs i _ there k ∙ put-same (λ j. (job_at d.jobs j).age) i k;
      left = λ k l. job-put (λ j. j.left) d.jobs i _ there k;
      holder = refl;
      under = refl;
      ran = refl;
      recorded = λ w k l m. refl;
    } in
    goes-on d x (finish i (Ok tt)) _ x refl
    (finished-closed (floor d) (state_of d) i _ x (finish-closed (floor d) (state_of d) i listed (grind (arith, is-task (floor d).tasks d.just_run i listed, c.ne.ensures, c.if-ne.false))) a)
