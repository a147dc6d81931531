-- A dispatcher's state between two calls, and what it makes of the next tick.
use Rattle.std.specs.Prelude.{◌≡◌, ℕ, ◌<◌, Bool, false, cond, ◌&&◌, ◌||◌, nat_lt}
use Rattle.sets.specs.Below.{some_below}
use Rattle.analysis.specs.Sums.{first_below}
use Rattle.analysis.specs.Floor.{Floor}

-- Nobody, as holder or as the task just run, is a number that is no task's; no way under scrub is a number that is no way's.
pub record State : Type 0 where
  -- ticks since the task's last batch was taken, as far as its period
  pub age : ℕ → ℕ
  -- what is left of the budget of the task's job; 0 without a job
  pub left : ℕ → ℕ
  -- the task that has the core
  pub holder : ℕ
  -- the way whose scrub has begun and is not done
  pub under : ℕ
  -- the task that the last tick ran and whose job is not over
  pub ran : ℕ
  -- of a way and a task: the task has run on the way since the way's last scrub was done
  pub recorded : ℕ → ℕ → Bool

-- the same, as far as the floor's tasks and ways go
pub record Agree (f : Floor) (s t : State) : Type 0 where
  pub age : (k : ℕ) → k < f.tasks → s.age k ≡ t.age k
  pub left : (k : ℕ) → k < f.tasks → s.left k ≡ t.left k
  pub holder : s.holder ≡ t.holder
  pub under : s.under ≡ t.under
  pub ran : s.ran ≡ t.ran
  pub recorded : (w k : ℕ) → w < f.ways → k < f.tasks → s.recorded w k ≡ t.recorded w k

-- right after a start: every task may be announced, none has a job, nobody has the core, and nothing is recorded
unfoldable pub fresh : Floor → State
fresh f = record { age = f.period; left = λ k. 0; holder = f.tasks; under = f.ways; ran = f.tasks; recorded = λ w k. false }

-- task k has a job
unfoldable pub pending : State → ℕ → Bool
pending s k = nat_lt 0 (s.left k)

-- way w must be scrubbed before task i may run: i uses it, and a task that must not leak to i is recorded there
unfoldable pub tainted : Floor → State → ℕ → ℕ → Bool
tainted f s i w = f.uses i w && some_below f.tasks (λ k. s.recorded w k && f.noleak k i)

-- the holder keeps the core: its task is whole, or it has begun a scrub
unfoldable pub stays : Floor → State → Bool
stays f s = nat_lt s.holder f.tasks && (f.whole s.holder || nat_lt s.under f.ways)

-- the task that has the next tick: the holder if it keeps the core, else the task of the highest priority that has a job, else nobody
unfoldable pub chosen : Floor → State → ℕ
chosen f s = cond (stays f s) s.holder (first_below f.tasks (pending s))

-- the way that is scrubbed next for task i: the one whose scrub has begun, else the lowest that must be scrubbed, else none
unfoldable pub scrub_way : Floor → State → ℕ → ℕ
scrub_way f s i = cond (nat_lt s.under f.ways) s.under (first_below f.ways (tainted f s i))
