-- The lines that tell what was read from a table text, each at the end of what was written before.
use Rattle.std.specs.Prelude.{ℕ, zero, suc, cond, ◌&&◌, List, [], ◌++◌, Ok, Err, codes, decimal, Result}
use Rattle.sets.specs.Sets.{has, WaySet}
use Rattle.taskset.specs.declared.fault.DraftFault.{DraftFault}
use Rattle.taskset.specs.declared.task.Figures.{Figures}
use Rattle.taskset.specs.declared.task.Kind.{Kind}
use Rattle.taskset.specs.declared.task.Kind.TheVariants.{Split, Whole}
use Rattle.taskset.specs.declared.task.Task.{Task}
use Rattle.taskset.specs.Table.{Table, both_listed, count, task_at, name_in, noleak}
use Rattle.tabletext.specs.declared.fault.TextFault.{TextFault}
use Rattle.tabletext.specs.Faults.{text_told}
use Rattle.printed.specs.Lines.{with_no}

-- the digit of way w, if the set names it
abbrev pub with_way : List ℕ → WaySet → ℕ → List ℕ
with_way out s w = cond (has s w) (out ++ decimal w) out

-- the digits of the ways below n that the set names
abbrev pub with_ways : List ℕ → WaySet → ℕ → List ℕ
with_ways out s zero = out
with_ways out s (suc w) = with_way (with_ways out s w) s w

-- the kind's word, and the line's end
abbrev pub with_kind : List ℕ → Kind → List ℕ
with_kind out Split = out ++ codes " split\n"
with_kind out Whole = out ++ codes " whole\n"

-- period, budget and deadline
abbrev pub with_times : List ℕ → Figures → List ℕ
with_times out f =
    let first = ((out ++ codes " period ") ++ decimal f.period) ++ codes " budget " in
    ((first ++ decimal f.budget) ++ codes " deadline ") ++ decimal f.deadline

-- all figures of a task
abbrev pub with_figures : List ℕ → Figures → List ℕ
with_figures out f = with_kind (with_ways (with_times out f ++ codes " ways ") f.ways 8) f.kind

-- the line of task i
abbrev pub with_task_at : List ℕ → List ℕ → ℕ → Result Task DraftFault → List ℕ
with_task_at out text i (Ok t) =
    let first = ((out ++ codes "task ") ++ decimal i) ++ codes " " in
    with_figures (first ++ name_in text t.name) t.figures
with_task_at out text i (Err e) = out

-- the lines of the tasks below n
abbrev pub with_tasks : List ℕ → List ℕ → Table → ℕ → List ℕ
with_tasks out text t zero = out
with_tasks out text t (suc i) = with_task_at (with_tasks out text t i) text i (task_at t.tasks i)

-- the line of a pair that stands
abbrev pub with_pair : List ℕ → List ℕ → Result Task DraftFault → Result Task DraftFault → List ℕ
with_pair out text (Ok k) (Ok i) =
    let first = ((out ++ codes "noleak ") ++ name_in text k.name) ++ codes " " in
    (first ++ name_in text i.name) ++ codes "\n"
with_pair out text (Ok k) (Err e) = out
with_pair out text (Err e) i = out

-- the line of the pair from task k to task i, if it stands between two tasks of the table
abbrev pub with_pair_if : List ℕ → List ℕ → Table → ℕ → ℕ → List ℕ
with_pair_if out text t i k =
    let pair = with_pair out text (task_at t.tasks k) (task_at t.tasks i) in
    cond (both_listed t k i && noleak t k i) pair out

-- the lines of the pairs to task i from the tasks below n
abbrev pub with_pairs_to : List ℕ → List ℕ → Table → ℕ → ℕ → List ℕ
with_pairs_to out text t i zero = out
with_pairs_to out text t i (suc k) = with_pair_if (with_pairs_to out text t i k) text t i k

-- the lines of the pairs to the tasks below n
abbrev pub with_pairs : List ℕ → List ℕ → Table → ℕ → List ℕ
with_pairs out text t zero = out
with_pairs out text t (suc i) = with_pairs_to (with_pairs out text t i) text t i (count t)

-- all that is listed of a text: its tasks and its pairs, or why it was refused
abbrev pub listing : List ℕ → Result Table TextFault → List ℕ
listing text (Ok t) = with_pairs (with_tasks [] text t (count t)) text t (count t)
listing text (Err e) = with_no [] (text_told e) ++ codes "\n"
