-- What a search tells: a bound, or that there is none.
use Rattle.std.specs.Prelude.{ℕ, ◌≤◌, Bool}
use Rattle.analysis.specs.Bounds.{IsBoundOf, IsLeast, InTime}
use Rattle.analysis.specs.Floor.{Floor}

-- no number from low to limit is one that the demand does not pass
abbrev pub NoneUpTo : (ℕ → ℕ) → ℕ → ℕ → Type 0
NoneUpTo demand low limit = (y : ℕ) → low ≤ y → y ≤ limit → demand y ≤ y → ⊥

-- x is the smallest number from low on that the demand does not pass, and no larger than limit
abbrev pub IsLeastUpTo : (ℕ → ℕ) → ℕ → ℕ → ℕ → Type 0
IsLeastUpTo demand low limit x = IsLeast demand low x × (x ≤ limit)

-- b is the bound of task i as one of this kind (whole or not), and within its deadline
abbrev pub BoundMet : Floor → ℕ → Bool → ℕ → Type 0
BoundMet f i whole b = IsBoundOf f i whole b × (b ≤ f.deadline i)

-- no number is
abbrev pub BoundMissed : Floor → ℕ → Bool → Type 0
BoundMissed f i whole = (b : ℕ) → BoundMet f i whole b → ⊥

-- task i has no bound within its deadline
abbrev pub Unbounded : Floor → ℕ → Type 0
Unbounded f i = (b : ℕ) → InTime f i b → ⊥
