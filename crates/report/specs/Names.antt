-- How long the names of tasks are.
use Rattle.std.specs.Prelude.{ℕ, ◌<◌, ◌≤◌, List, length, slice_index_or}
use Rattle.taskset.specs.declared.task.Task.{Task}
use Rattle.taskset.specs.Table.{name_in}

-- no task's name has over sixteen bytes in the text
abbrev pub AreShort : List ℕ → List Task → Type 0
AreShort text ts =
    (i : ℕ) (t : Task) → i < length ts → length (name_in text (slice_index_or ts i t).name) ≤ 16
