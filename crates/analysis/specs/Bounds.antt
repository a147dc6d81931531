-- The bound of a task's response: by the least number that its demand does not pass.
use Rattle.std.specs.Prelude.{◌≡◌, ℕ, ◌+◌, ◌-◌, ◌*◌, ◌/◌, ◌<◌, ◌≤◌, Bool, true, false}
use Rattle.analysis.specs.Sums.{sum_below}
use Rattle.analysis.specs.Floor.{Floor}
use Rattle.analysis.specs.Charges.{scrub_cost, interference, blocking}

-- r divided by p, rounded up
abbrev pub ceiling : ℕ → ℕ → ℕ
ceiling r p = (r + p - 1) / p

-- what may have to be done in the r ticks from a split task's announcement until its job ends
unfoldable pub split_demand : Floor → ℕ → ℕ → ℕ
split_demand f i r = blocking f i + f.budget i + scrub_cost f i + sum_below i (λ j. ceiling r (f.period j) * interference f j i)

-- what may have to be done before a whole task's first tick, s ticks after its announcement
unfoldable pub whole_demand : Floor → ℕ → ℕ → ℕ
whole_demand f i s = blocking f i + sum_below i (λ j. (s / f.period j + 1) * interference f j i)

-- x is the smallest number from low on that the demand does not pass
pub record IsLeast (demand : ℕ → ℕ) (low x : ℕ) : Type 0 where
  pub from : low ≤ x
  pub meets : demand x ≤ x
  pub first : (y : ℕ) → low ≤ y → demand y ≤ y → x ≤ y

-- s is the least start of task i, as a whole task
abbrev pub IsStart : Floor → ℕ → ℕ → Type 0
IsStart f i s = IsLeast (whole_demand f i) 0 s

-- b is the bound of task i, whole (true) or split (false)
abbrev pub IsBoundOf : Floor → ℕ → Bool → ℕ → Type 0
IsBoundOf f i true b = (s : ℕ) × IsStart f i s × (b ≡ s + scrub_cost f i + f.budget i)
IsBoundOf f i false b = IsLeast (split_demand f i) 1 b

-- b is the bound of task i
abbrev pub IsBound : Floor → ℕ → ℕ → Type 0
IsBound f i b = IsBoundOf f i (f.whole i) b

-- b is the bound of task i, and within its deadline
pub record InTime (f : Floor) (i b : ℕ) : Type 0 where
  pub bound : IsBound f i b
  pub met : b ≤ f.deadline i

-- the floor is accepted: every task has a bound within its deadline
abbrev pub Accepted : Floor → (ℕ → ℕ) → Type 0
Accepted f bound = (i : ℕ) → i < f.tasks → InTime f i (bound i)
