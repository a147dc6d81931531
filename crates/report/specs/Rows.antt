-- The lines of a report, one for each task.
use Rattle.std.specs.Prelude.{ℕ, zero, suc, List, [], ◌++◌, Ok, Err, Result, slice_index}
use Rattle.taskset.specs.declared.fault.DraftFault.{DraftFault}
use Rattle.taskset.specs.declared.task.Task.{Task}
use Rattle.taskset.specs.Table.{task_at, name_in}
use Rattle.report.specs.Page.{row}

-- the line of a task: its name, its bound and its slack
abbrev pub row_of : List ℕ → Result Task DraftFault → ℕ → ℕ → List ℕ
row_of text (Ok t) bound slack = row (name_in text t.name) bound slack
row_of text (Err e) bound slack = []

-- the lines of the tasks below n, with their bounds and slacks from two lists
abbrev pub rows_below : List ℕ → List Task → List ℕ → List ℕ → ℕ → List ℕ
rows_below text ts bounds slacks zero = []
rows_below text ts bounds slacks (suc i) =
    rows_below text ts bounds slacks i
    ++ row_of text (task_at ts i) (slice_index bounds i) (slice_index slacks i)
