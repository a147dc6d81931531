-- A floor's table: its tasks, and the pairs of them that must not leak.
use Rattle.std.specs.Prelude.{◌≡◌, ℕ, zero, suc, ◌+◌, ◌<◌, ◌≤◌, Bool, true, cond, ◌&&◌, List, [], ◌∷◌, ◌++◌, length, take, drop, Ok, Err, Result, ◌==◌, ◌≢◌, nat_le, nat_lt, slice_index_or, slice_set}
use Rattle.sets.specs.Sets.{TaskSet, has, nobody, with_member}
use Rattle.taskset.specs.declared.fault.DraftFault.{DraftFault}
use Rattle.taskset.specs.declared.fault.DraftFault.TheVariants.{FullTable, WildFigure, Itself, Unlisted}
use Rattle.taskset.specs.declared.task.Figures.{Figures}
use Rattle.taskset.specs.declared.task.Name.{Name}
use Rattle.taskset.specs.declared.task.Task.{Task}
use Rattle.taskset.specs.Figures.{lawful, all_lawful}

-- the tasks in the order of their numbers, and for each task the set of those of which it must see no trace
pub record Table : Type 0 where
  pub tasks : List Task
  pub pairs : List TaskSet

-- task i must not run on a trace of task k
abbrev pub noleak : Table → ℕ → ℕ → Bool
noleak t k i = has (slice_index_or t.pairs i (nobody 16)) k

-- the table without a task
abbrev pub nothing : Table
nothing = record { tasks = []; pairs = [] }

-- how many tasks there are
abbrev pub count : Table → ℕ
count t = length t.tasks

-- what holds of every draft's table: at most sixteen tasks, figures in their ranges, and pairs only between two different tasks of it
pub record IsLawful (t : Table) : Type 0 where
  pub few : count t ≤ 16
  pub figures : all_lawful t.tasks ≡ true
  pub places : length t.pairs ≡ count t
  pub listed : (k i : ℕ) → noleak t k i ≡ true → (k < count t) × (i < count t)
  pub apart : (i : ℕ) → noleak t i i ≢ true

-- a task of these figures with the empty name at place 0
abbrev pub unnamed : Figures → Task
unnamed f = record { figures = f; name = record { place = 0; len = 0 } }

-- the table with one task more, which takes the next number
abbrev pub with_task : Table → Task → Table
with_task t k = record { tasks = t.tasks ++ k ∷ []; pairs = t.pairs ++ nobody 16 ∷ [] }

-- adding a task: refused in a full table, or where a figure is out of its range
abbrev pub added : Table → Task → Result Table DraftFault
added t k = cond (nat_lt (count t) 16) (cond (lawful k.figures) (Ok (with_task t k)) (Err WildFigure)) (Err FullTable)

-- the pair noleak from to, besides those that stand
abbrev pub with_pair : Table → ℕ → ℕ → Table
with_pair t from to = record { tasks = t.tasks; pairs = slice_set t.pairs to (with_member (slice_index_or t.pairs to (nobody 16)) from) }

-- both numbers are those of tasks
abbrev pub both_listed : Table → ℕ → ℕ → Bool
both_listed t from to = nat_lt from (count t) && nat_lt to (count t)

-- adding a pair: refused where a number is no task's, or both are the same
abbrev pub paired : Table → ℕ → ℕ → Result Table DraftFault
paired t from to = cond (both_listed t from to) (cond (from == to) (Err Itself) (Ok (with_pair t from to))) (Err Unlisted)

-- whether the pair stands
abbrev pub pair_asked : Table → ℕ → ℕ → Result Bool DraftFault
pair_asked t from to = cond (both_listed t from to) (Ok (noleak t from to)) (Err Unlisted)

-- the task of a number
abbrev pub task_at : List Task → ℕ → Result Task DraftFault
task_at [] i = Err Unlisted
task_at (t ∷ ts) zero = Ok t
task_at (t ∷ ts) (suc i) = task_at ts i

-- its figures
abbrev pub figures_of : Result Task DraftFault → Result Figures DraftFault
figures_of (Ok t) = Ok t.figures
figures_of (Err e) = Err e

-- the part of a text where a name stands, or the empty part where that runs past the text's end
unfoldable pub name_in : List ℕ → Name → List ℕ
name_in text n = cond (nat_le (n.place + n.len) (length text)) (take n.len (drop n.place text)) []

-- its name, out of a text
abbrev pub name_of : List ℕ → Result Task DraftFault → Result (List ℕ) DraftFault
name_of text (Ok t) = Ok (name_in text t.name)
name_of text (Err e) = Err e
