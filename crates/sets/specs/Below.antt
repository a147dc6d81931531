-- Tests of all numbers below a limit.
use Rattle.std.specs.Prelude.{◌≡◌, ℕ, zero, suc, ◌<◌, Bool, true, false, ◌||◌}

-- some number below n passes the test f
unfoldable pub some_below : ℕ → (ℕ → Bool) → Bool
some_below zero f = false
some_below (suc n) f = f n || some_below n f

-- one that does
pub record SomeBelow (n : ℕ) (f : ℕ → Bool) : Type 0 where
  pub at : ℕ
  pub below : at < n
  pub passes : f at ≡ true

-- no number below n passes the test
abbrev pub NoneBelow : ℕ → (ℕ → Bool) → Type 0
NoneBelow n f = (k : ℕ) → k < n → f k ≡ false

-- k is the lowest number below n that passes the test
pub record IsLowest (n : ℕ) (f : ℕ → Bool) (k : ℕ) : Type 0 where
  pub below : k < n
  pub passes : f k ≡ true
  pub first : NoneBelow k f
