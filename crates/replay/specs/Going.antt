-- Where a day stands, and how it goes on.
use Rattle.std.specs.Prelude.{◌≡◌, ℕ, List}
use Rattle.resource.specs.Seen.{Seen}
use Rattle.taskset.specs.declared.task.Task.{Task}
use Rattle.taskset.specs.Table.{count}
use Rattle.analysis.specs.PlanOf.{plan_floor, plan_table}
use Rattle.runs.specs.History.{Event}
use Rattle.runs.specs.Law.{Kept}
use Rattle.runs.specs.Run.{Run}
use Rattle.dispatch.specs.View.{plan_of, state_of}
use Rattle.replay.specs.declared.day.Day.{Day}
use Rattle.replay.specs.Asked.{Ask}
use Rattle.replay.specs.Told.{Told}
use Rattle.replay.specs.Summary.{with_remarks, with_response_at, with_responses}

-- the tasks of its table
abbrev pub tasks_of : {R : Type 0} → Day R → List Task
tasks_of d = d.draft.now.tasks

-- how many tasks its plan has
abbrev pub task_count : {R : Type 0} → Day R → ℕ
task_count d = count (plan_table d.plan.now)

-- what has been told of it
abbrev pub told_of : {R : Type 0} → Day R → List ℕ
told_of d = d.out.now.items

-- Where a day stands, after the bytes in front: what was told of it, as these calls were asked for, tells a history of a run of its plan's
-- floor up to its dispatcher and its resource, and that history keeps the law.
pub record Stands {R : Type 0} (seen : R → Seen) (front : List ℕ) (asks : List Ask) (d : Day R) : Type 0 where
  pub plan : plan_of d.dispatcher ≡ d.plan.now
  pub history : List Event
  pub told : Told d.text.now (tasks_of d) front asks (told_of d) history d.book.ticks
  pub run : Run (plan_floor d.plan.now) history (state_of d.dispatcher) (seen d.resource.now)
  pub kept : Kept (plan_floor d.plan.now) history

-- The day goes on over the same table by the same plan, and is told into the same list. Wherever it stood, it stands there with what was
-- asked besides.
pub record Goes {R : Type 0} (seen : R → Seen) (more : List Ask → List Ask) (d e : Day R) : Type 0 where
  pub text : e.text.now ≡ d.text.now
  pub draft : e.draft.now ≡ d.draft.now
  pub plan : e.plan.now ≡ d.plan.now
  pub list : e.out.ghost_name ≡ d.out.ghost_name
  pub stands : (front : List ℕ) (asks : List Ask) → Stands seen front asks d → Stands seen front (more asks) e

-- the same day in all else, and these bytes are told of it now, in the same list
pub record Tells {R : Type 0} (d : Day R) (bytes : List ℕ) (e : Day R) : Type 0 where
  pub rest : e ≡ record d { out = e.out }
  pub list : e.out.ghost_name ≡ d.out.ghost_name
  pub told : told_of e ≡ bytes

-- what is told of it, and the worst response of task i with its bound
abbrev pub response_told : {R : Type 0} → Day R → ℕ → List ℕ
response_told d i = with_response_at (told_of d) d.text.now (tasks_of d) d.plan.now d.book i

-- the same with those of the tasks below n
abbrev pub responses_told : {R : Type 0} → Day R → ℕ → List ℕ
responses_told d n = with_responses (told_of d) d.text.now (tasks_of d) d.plan.now d.book n

-- the same with all remarks
abbrev pub remarked : {R : Type 0} → Day R → List ℕ
remarked d = with_remarks (told_of d) d.text.now (tasks_of d) d.plan.now d.book
