-- The floors that are worked by hand.
use Rattle.std.specs.Prelude.{ℕ, ◌^◌, cond, List, [], ◌∷◌, length, nat_lt, replicate}
use Rattle.sets.specs.Sets.{nobody, WaySet}
use Rattle.taskset.specs.declared.task.Kind.{Kind}
use Rattle.taskset.specs.declared.task.Kind.TheVariants.{Split, Whole}
use Rattle.taskset.specs.declared.task.Task.{Task}
use Rattle.taskset.specs.Table.{Table, with_pair}
use Rattle.analysis.specs.Floor.{Floor}
use Rattle.analysis.specs.FloorOf.{floor_of}

-- the set of one way
abbrev pub on_way : ℕ → WaySet
on_way w = record { bits = 2 ^ w }

-- a task without a name: period, budget, deadline, its one way, its kind
abbrev pub task : ℕ → ℕ → ℕ → ℕ → Kind → Task
task p c d w kind = record { figures = record { period = p; budget = c; deadline = d; ways = on_way w; kind = kind }; name = record { place = 0; len = 0 } }

-- the table of these tasks, in which any may see any other's traces
abbrev pub free_table : List Task → Table
free_table ts = record { tasks = ts; pairs = replicate (length ts) (nobody 16) }

-- pick (0), seal (1) and send (2), each on a way of its own choice; send's deadline
abbrev pub line : ℕ → ℕ → ℕ → ℕ → Table
line u v w d = with_pair (with_pair (with_pair (with_pair (free_table (task 10 1 10 u Split ∷ task 20 3 20 v Whole ∷ task 60 5 d w Split ∷ [])) 0 1) 1 0) 1 2) 2 0

-- one whole task of period and deadline 5; its budget
abbrev pub alone : ℕ → Table
alone c = free_table (task 5 c 5 0 Whole ∷ [])

-- the floor of a table on a way cache, whose eight ways cost 2 scrub calls each
abbrev pub on_cache : Table → Floor
on_cache t = floor_of t (λ w. cond (nat_lt w 8) 2 0)
