use Rattle.std.proofs.Common.{◌<◌, ℕ, length, Ok, Err, refl, ap, ◌∙◌, arith}
use Rattle.runs.specs.State.{Agree}
use Rattle.runs.specs.Calls.{taken, put}
use Rattle.runs.specs.History.{announce}
use Rattle.runs.specs.declared.fault.CallFault.TheVariants.{Unlisted, TooEarly}
use Rattle.dispatch.specs.View.{floor, state_of, job_at}
use Rattle.dispatch.proofs.Answered.{announced-refused, announced-taken, announce-unlisted, announce-early, announce-taken}
use Rattle.dispatch.proofs.Lasting.{goes-on}
use Rattle.dispatch.proofs.Later.{job-put}
use Rattle.dispatch.proofs.Plans.{plan_few, task-figures}
use Rattle.dispatch.proofs.dispatcher.Dispatcher.announce.Goals as goal

pub returns-then-task-task_count-clause-goes_on : goal.returns-then-task-task_count-clause-goes_on
returns-then-task-task_count-clause-goes_on c x =
    let d = c.args.self.now in
    let i = c.args.task in
    goes-on d x (announce i (Err Unlisted)) d x refl (announced-refused (floor d) (state_of d) i Unlisted x (announce-unlisted (floor d) (state_of d) i (omega arith)))

pub returns-then-self-task-clause-goes_on : goal.returns-then-self-task-clause-goes_on
unfolding state_of
returns-then-self-task-clause-goes_on c x =
    let d = c.args.self.now in
    let i = c.args.task in
    let listed : i < (floor d).tasks = omega arith in
    let period = ap (λ x. x.period) c.figures_at-figures.ensures ∙ (task-figures d.plan i listed).period in
    goes-on d x (announce i (Err TooEarly)) d x refl
    (announced-refused (floor d) (state_of d) i TooEarly x (announce-early (floor d) (state_of d) i listed (omega (arith, period))))

pub returns-clause-goes_on : goal.returns-clause-goes_on
unfolding state_of taken
returns-clause-goes_on c x =
    let d = c.args.self.now in
    let i = c.args.task in
    let listed : i < (floor d).tasks = omega arith in
    let there : i < length d.jobs = omega (arith, plan_few d.plan) in
    let its = task-figures d.plan i listed in
    let period = ap (λ x. x.period) c.figures_at-figures.ensures ∙ its.period in
    let budget = ap (λ x. x.budget) c.figures_at-figures.ensures ∙ its.budget in
    let a : Agree (floor d) _ (taken (floor d) i (state_of d)) = record {
      age = λ k l. job-put (λ j. j.age) d.jobs i _ there k;
      left = λ k l. job-put (λ j. j.left) d.jobs i _ there k ∙ ap (λ (v : ℕ). put (λ j. (job_at d.jobs j).left) i v k) budget;
      holder = refl;
      under = refl;
      ran = refl;
      recorded = λ w k l m. refl;
    } in
    goes-on d x (announce i (Ok tt)) _ x refl
    (announced-taken (floor d) (state_of d) i _ x (announce-taken (floor d) (state_of d) i listed (omega (arith, period))) a)
