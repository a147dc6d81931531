-- A whole day: what is told of an accepted plan from its start on.
use Rattle.std.specs.Prelude.{◌≡◌, ℕ, List, [], Ok, Err, Result}
use Rattle.resource.specs.Seen.{Seen}
use Rattle.taskset.specs.declared.task.Task.{Task}
use Rattle.taskset.specs.Table.{Table}
use Rattle.textparts.specs.Spans.{Span}
use Rattle.analysis.specs.declared.plan.Plan.{Plan}
use Rattle.analysis.specs.declared.fault.AnalysisFault.{AnalysisFault}
use Rattle.analysis.specs.After.{PlanFor}
use Rattle.analysis.specs.Faults.{analysis_told}
use Rattle.analysis.specs.PlanOf.{plan_floor}
use Rattle.analysis.specs.Verdict.{Verdict, asked_floor}
use Rattle.runs.specs.declared.fault.StartFault.{StartFault}
use Rattle.runs.specs.Faults.{start_told}
use Rattle.runs.specs.History.{Event}
use Rattle.runs.specs.Law.{Kept}
use Rattle.runs.specs.Run.{Run}
use Rattle.runs.specs.State.{State}
use Rattle.dispatch.specs.Start.{starting}
use Rattle.daylines.specs.declared.book.Book.{Book}
use Rattle.daylines.specs.Lines.{with_no_line}
use Rattle.replay.specs.Asked.{asked_by}
use Rattle.replay.specs.Told.{Told}
use Rattle.replay.specs.Summary.{with_remarks}

-- After the bytes told before, the lines of a day are answered one by one: they tell a history, that is one of a run of the plan's floor,
-- and it keeps the law. The remarks come last.
pub record DayTold (text : List ℕ) (tasks : List Task) (p : Plan) (lines : List Span) (front later : List ℕ) : Type 0 where
  pub history : List Event
  pub calls : List ℕ
  pub ticks : ℕ
  pub told : Told text tasks front (asked_by lines []) calls history ticks
  pub state : State
  pub seen : Seen
  pub run : Run (plan_floor p) history state seen
  pub kept : Kept (plan_floor p) history
  pub book : Book
  pub whole : later ≡ with_remarks calls text tasks p book

-- a day by the answer to its start: told, or refused
abbrev pub Dayed : Result (Unit {0}) StartFault → List ℕ → List Task → Plan → List Span → List ℕ → List ℕ → Type 0
Dayed (Ok u) text tasks p lines front later = DayTold text tasks p lines front later
Dayed (Err e) text tasks p lines front later = later ≡ with_no_line front (start_told e)

-- an accepted table: its plan, and the day of it
pub record PlanDay (text : List ℕ) (t : Table) (x : Seen) (lines : List Span) (front later : List ℕ) : Type 0 where
  pub plan : Plan
  pub right : PlanFor t x plan
  pub day : Dayed (starting (plan_floor plan) x) text t.tasks plan lines front later

-- a table by the verdict on it: the day of its plan, or the refusal
abbrev pub Judged : Result (Unit {0}) AnalysisFault → List ℕ → Table → Seen → List Span → List ℕ → List ℕ → Type 0
Judged (Ok u) text t x lines front later = PlanDay text t x lines front later
Judged (Err e) text t x lines front later = later ≡ with_no_line front (analysis_told e)

-- a table on a resource that is seen so: the verdict, where the lists have so much room, and what is told by it
pub record Planned (text : List ℕ) (t : Table) (x : Seen) (lines : List Span) (front later : List ℕ) : Type 0 where
  pub verdict : Result (Unit {0}) AnalysisFault
  pub room : ℕ
  pub right : Verdict (asked_floor t x) x.ways room verdict
  pub told : Judged verdict text t x lines front later
