use Rattle.std.proofs.Common.{◌≡◌, ◌+◌, ◌<◌, length, min, ap, ◌∙◌, arith, is_ok, length-set, get_or-set_other}
use Rattle.analysis.specs.PlanOf.{plan_figures, plan_floor}
use Rattle.dispatch.specs.declared.dispatcher.Job.{Job}
use Rattle.dispatch.specs.View.{job_at}
use Rattle.dispatch.proofs.Later.{wrote-below, job-put, put-same}
use Rattle.dispatch.proofs.Plans.{task-figures, task-there}
use Rattle.dispatch.proofs.dispatcher.later.grow_ages.Goals as goal

pub unwrap-period-requires : goal.unwrap-period-requires
unwrap-period-requires c = ap is_ok (c.figures.ensures ∙ task-there c.args.plan.now c.loop-task.task (omega arith))

pub loop-task-preserved : goal.loop-task-preserved
loop-task-preserved c =
    let f = plan_floor c.args.plan.now in
    let old = c.args.jobs.now in
    let xs = c.loop-task.jobs in
    let at = c.loop-task.task in
    let i = c.loop-task.invariant in
    let there : at < length xs = omega (arith, i.places) in
    let listed : at < f.tasks = omega arith in
    let its : c.unwrap-period.result ≡ plan_figures c.args.plan.now at = let e = task-there c.args.plan.now at listed in cc in
    let period = ap (λ x. x.period) its ∙ (task-figures c.args.plan.now at listed).period in
    let new : c.older_age.result ≡ min ((job_at old at).age + 1) (f.period at) = omega (arith, i.others at (omega arith), period) in
    let v : Job = record { age = c.older_age.result; left = (job_at xs at).left } in
    record {
      places = length-set xs at v ∙ i.places;
      older = wrote-below xs at v (record { age = 0; left = 0 }) (λ k j. j.age ≡ min ((job_at old k).age + 1) (f.period k)) there new i.older;
      others = λ k l. ap (λ (j : Job). j.age) (get_or-set_other xs at k v (record { age = 0; left = 0 }) (omega arith)) ∙ i.others k (omega arith);
      left = λ k. job-put (λ j. j.left) xs at v there k ∙ put-same (λ j. (job_at xs j).left) at k ∙ i.left k;
    }

pub returns : goal.returns
returns c = let i = c.loop-task.invariant in record { places = omega (arith, i.places); age = λ k l. i.older k (omega arith); left = i.left }
