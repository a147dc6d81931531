-- What the scrubs of a floor's ways may cost each of its tasks.
use Rattle.std.specs.Prelude.{ℕ, suc, ◌+◌, ◌-◌, Bool, cond, not, ◌&&◌, ◌||◌, ◌==◌, nat_lt}
use Rattle.sets.specs.Below.{some_below}
use Rattle.analysis.specs.Sums.{sum_below, most_below}
use Rattle.analysis.specs.Floor.{Floor}

-- task k may leave a trace on way w that another task i must not see
abbrev pub threatens : Floor → ℕ → ℕ → ℕ → Bool
threatens f k i w = not (k == i) && (f.uses k w && f.noleak k i)

-- Way w of task i is guarded: another task uses it too, and must not leak to i. Only guarded ways are ever scrubbed for i.
unfoldable pub guarded : Floor → ℕ → ℕ → Bool
guarded f i w = f.uses i w && some_below f.tasks (λ k. threatens f k i w)

-- what scrubbing way w for task i costs, if it is ever scrubbed for it
unfoldable pub guard_cost : Floor → ℕ → ℕ → ℕ
guard_cost f i w = cond (guarded f i w) (f.cost w) 0

-- F(i): what scrubbing all guarded ways of task i costs
unfoldable pub scrub_cost : Floor → ℕ → ℕ
scrub_cost f i = sum_below f.ways (guard_cost f i)

-- what task k has to be scrubbed for again where task j preempts it: nothing where k is whole or has the higher priority
abbrev pub resumption : Floor → ℕ → ℕ → ℕ
resumption f j k = cond (nat_lt j k && not (f.whole k)) (scrub_cost f k) 0

-- the largest scrub cost of a split task k with j < k < m: what one preemption by j may have to be paid again when such a task resumes
unfoldable pub resume_below : Floor → ℕ → ℕ → ℕ
resume_below f j m = most_below m (resumption f j)

-- R(j,i): the same over the split tasks k with j < k ≤ i
unfoldable pub resume_cost : Floor → ℕ → ℕ → ℕ
resume_cost f j i = resume_below f j (suc i)

-- K(j,i): what one job of task j may take from task i, a task of lower priority
unfoldable pub interference : Floor → ℕ → ℕ → ℕ
interference f j i = f.budget j + scrub_cost f j + resume_cost f j i

-- the cost of the dearest guarded way of task l
unfoldable pub dearest : Floor → ℕ → ℕ
dearest f l = most_below f.ways (guard_cost f l)

-- how long task l, once it has had a tick, may still hold the core against everybody: a whole task to the end of its job,
-- a split one to the end of the scrub that it has begun
unfoldable pub hold_cost : Floor → ℕ → ℕ
hold_cost f l = cond (f.whole l) (scrub_cost f l + f.budget l - 1) (dearest f l - 1)

-- task l may be holding the core when a job of task i is announced: it has a lower priority, or is i itself with an earlier job
-- (which, for the task of the highest priority, is always over by then)
abbrev pub may_block : ℕ → ℕ → Bool
may_block i l = nat_lt i l || (i == l && nat_lt 0 i)

-- how long task l may hold the core when a job of task i is announced
abbrev pub block : Floor → ℕ → ℕ → ℕ
block f i l = cond (may_block i l) (hold_cost f l) 0

-- B(i): the longest that such a task may hold the core
unfoldable pub blocking : Floor → ℕ → ℕ
blocking f i = most_below f.tasks (block f i)

-- the ticks of scrubbing that one job of task j brings into a run: its own scrubs, and those of the task that it makes resume
unfoldable pub allowance : Floor → ℕ → ℕ
allowance f j = scrub_cost f j + resume_below f j f.tasks
