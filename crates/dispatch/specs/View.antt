-- A dispatcher's plan, floor and state.
use Rattle.std.specs.Prelude.{ℕ, Bool, List, slice_index_or}
use Rattle.std.specs.Option.{unwrap_or}
use Rattle.sets.specs.Sets.{has, TaskSet, WaySet}
use Rattle.analysis.specs.Floor.{Floor}
use Rattle.analysis.specs.declared.plan.Plan.{Plan}
use Rattle.analysis.specs.PlanOf.{plan_figures, plan_floor}
use Rattle.runs.specs.State.{State}
use Rattle.dispatch.specs.declared.dispatcher.Dispatcher.{Dispatcher}
use Rattle.dispatch.specs.declared.dispatcher.Job.{Job}

-- the plan that it runs
abbrev pub plan_of : Dispatcher → Plan
plan_of d = d.plan

-- the floor that it runs: that of its plan
abbrev pub floor : Dispatcher → Floor
floor d = plan_floor (plan_of d)

-- what is known of task k and its job
abbrev pub job_at : List Job → ℕ → Job
job_at jobs k = slice_index_or jobs k (record { age = 0; left = 0 })

-- the record of way w holds task k
abbrev pub record_at : List TaskSet → ℕ → ℕ → Bool
record_at records w k = has (slice_index_or records w (record { bits = 0 })) k

-- its state: nobody is the number of tasks, and no way is 8
unfoldable pub state_of : Dispatcher → State
state_of d = record {
  age = λ k. (job_at d.jobs k).age;
  left = λ k. (job_at d.jobs k).left;
  holder = unwrap_or d.holder (floor d).tasks;
  under = unwrap_or d.under (floor d).ways;
  ran = unwrap_or d.just_run (floor d).tasks;
  recorded = record_at d.records;
}

-- the ways of a task of the plan
abbrev pub task_ways : Plan → ℕ → WaySet
task_ways p i = (plan_figures p i).ways
