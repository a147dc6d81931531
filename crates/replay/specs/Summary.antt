-- The remarks at a day's end.
use Rattle.std.specs.Prelude.{ℕ, zero, suc, List, Ok, Err, Result}
use Rattle.taskset.specs.declared.fault.DraftFault.{DraftFault}
use Rattle.taskset.specs.declared.task.Task.{Task}
use Rattle.taskset.specs.Table.{count, task_at}
use Rattle.analysis.specs.declared.plan.Plan.{Plan}
use Rattle.analysis.specs.PlanOf.{plan_table, bound_asked}
use Rattle.daylines.specs.declared.book.Book.{Book}
use Rattle.daylines.specs.Lines.{name_at}
use Rattle.daylines.specs.Remarks.{worst_at, with_ends, with_finishes, with_refused, with_response, with_scrubs, with_taken, with_unended}

-- a number, or 0 where it was refused
abbrev pub or_zero : Result ℕ DraftFault → ℕ
or_zero (Ok n) = n
or_zero (Err e) = 0

-- a task's bound; 0 for a number that is no task's
abbrev pub bound_or : Plan → ℕ → ℕ
bound_or p i = or_zero (bound_asked p i)

-- the worst response of task i and its bound
abbrev pub with_response_at : List ℕ → List ℕ → List Task → Plan → Book → ℕ → List ℕ
with_response_at out text tasks p b i = with_response out (name_at text (task_at tasks i)) (worst_at b i) (bound_or p i)

-- the same of the tasks below n
abbrev pub with_responses : List ℕ → List ℕ → List Task → Plan → Book → ℕ → List ℕ
with_responses out text tasks p b zero = out
with_responses out text tasks p b (suc i) = with_response_at (with_responses out text tasks p b i) text tasks p b i

-- all remarks
abbrev pub with_remarks : List ℕ → List ℕ → List Task → Plan → Book → List ℕ
with_remarks out text tasks p b = with_scrubs (with_responses (with_finishes (with_unended (with_ends (with_refused (with_taken out b) b) b) b) b) text tasks p b (count (plan_table p))) b
