-- One way, one task or one pair more.
use Rattle.std.proofs.Common.{◌≡◌, ℕ, ◌+◌, ◌<◌, ◌≤◌, List, length, get_or, Ok, ap, add-one, arith}
use Rattle.std.proofs.lemmas.List.{take_all}
use Rattle.sets.specs.Sets.{WaySet}
use Rattle.taskset.specs.declared.task.Task.{Task}
use Rattle.taskset.specs.Table.{Table, count, task_at}
use Rattle.taskset.proofs.Tables.{task-there}
use Rattle.listing.specs.Listing.{with_pair_if, with_pairs, with_pairs_to, with_task_at, with_tasks, with_way, with_ways}

pub with_ways_more : (out : List ℕ) (s : WaySet) (w : ℕ) →
    with_ways out s (w + 1) ≡ with_way (with_ways out s w) s w
with_ways_more out s w = ap (with_ways out s) (add-one w)

-- by the task itself, out of the list of all tasks
pub with_tasks_more : (out text o : List ℕ) (t : Table) (ts : List Task) (i : ℕ) (d : Task) →
    ts ≡ t.tasks → i < length ts → o ≡ with_tasks out text t i →
    with_task_at o text i (Ok (get_or ts i d)) ≡ with_tasks out text t (i + 1)
with_tasks_more out text o t ts i d e l same =
    let all : length ts ≤ length ts = omega arith in
    let there : task_at t.tasks i ≡ Ok (get_or ts i d) =
    rw (← e) (rw (take_all (length ts) ts all) at (task-there ts (length ts) i d l all)) in
    rw (same, add-one, there)

pub with_pairs_to_more : (out text : List ℕ) (t : Table) (i k : ℕ) →
    with_pairs_to out text t i (k + 1) ≡ with_pair_if (with_pairs_to out text t i k) text t i k
with_pairs_to_more out text t i k = ap (with_pairs_to out text t i) (add-one k)

pub with_pairs_more : (out text : List ℕ) (t : Table) (i : ℕ) →
    with_pairs out text t (i + 1) ≡ with_pairs_to (with_pairs out text t i) text t i (count t)
with_pairs_more out text t i = ap (with_pairs out text t) (add-one i)
