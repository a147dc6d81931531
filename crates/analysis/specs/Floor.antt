-- A floor: its tasks and what the scrubs of its ways cost.
use Rattle.std.specs.Prelude.{ℕ, Bool}

-- Tasks are numbered from 0, which has the highest priority, and ways from 0.
pub record Floor : Type 0 where
  -- how many tasks there are, and how many ways
  pub tasks : ℕ
  pub ways : ℕ
  -- of a task, in ticks
  pub period : ℕ → ℕ
  pub budget : ℕ → ℕ
  pub deadline : ℕ → ℕ
  -- the task cannot be preempted from its first tick until its job ends
  pub whole : ℕ → Bool
  -- the task (first) uses the way (second)
  pub uses : ℕ → ℕ → Bool
  -- the second task must not run on a trace of the first
  pub noleak : ℕ → ℕ → Bool
  -- scrub calls that a way may take until it is done
  pub cost : ℕ → ℕ
