-- A task or a way, or none.
use Rattle.std.specs.Prelude.{◌≡◌, ℕ, ◌<◌, ◌≤◌, Bool, Some, None, Option, MatchOption}
use Rattle.sets.specs.Below.{NoneBelow, IsLowest}

-- it stands for x, where a number from n on means none
abbrev pub StandsFor : ℕ → ℕ → Option ℕ → Type 0
StandsFor n x None = n ≤ x
StandsFor n x (Some k) = (k ≡ x) × (k < n)

-- it is the lowest number below n that passes the test, or none where none does
abbrev pub IsFirstBelow : ℕ → (ℕ → Bool) → Option ℕ → Type 0
IsFirstBelow n test o = MatchOption o (NoneBelow n test) (IsLowest n test)
