-- The ranges of a task's figures.
use Rattle.std.specs.Prelude.{ℕ, Bool, true, false, not, ◌&&◌, List, [], ◌∷◌, nat_le}
use Rattle.sets.specs.Sets.{is_memberless}
use Rattle.taskset.specs.declared.task.Figures.{Figures}
use Rattle.taskset.specs.declared.task.Kind.{Kind}
use Rattle.taskset.specs.declared.task.Kind.TheVariants.{Split, Whole}
use Rattle.taskset.specs.declared.task.Task.{Task}

-- whether a kind is that of a task that cannot be preempted
abbrev pub is_whole : Kind → Bool
is_whole Split = false
is_whole Whole = true

-- n lies from low to high
abbrev pub within : ℕ → ℕ → ℕ → Bool
within low high n = nat_le low n && nat_le n high

-- the period is 1 to 1,000,000, the budget 1 to 60,000, the deadline 1 to the period, and there is a way
unfoldable pub lawful : Figures → Bool
lawful f = within 1 1000000 f.period && (within 1 60000 f.budget && (within 1 f.period f.deadline && not (is_memberless f.ways)))

-- every task's figures are in their ranges
abbrev pub all_lawful : List Task → Bool
all_lawful [] = true
all_lawful (t ∷ ts) = lawful t.figures && all_lawful ts
