-- Sums, largest values and first places among the numbers below a limit.
use Rattle.std.specs.Prelude.{ℕ, zero, suc, ◌+◌, max, Bool, cond}
use Rattle.sets.specs.Below.{some_below}

-- the sum of f over the numbers below m
abbrev pub sum_below : ℕ → (ℕ → ℕ) → ℕ
sum_below zero f = 0
sum_below (suc m) f = sum_below m f + f m

-- the largest f of a number below m, or 0
abbrev pub most_below : ℕ → (ℕ → ℕ) → ℕ
most_below zero f = 0
most_below (suc m) f = max (most_below m f) (f m)

-- the lowest number below m that passes the test f, or m where none does
abbrev pub first_below : ℕ → (ℕ → Bool) → ℕ
first_below zero f = 0
first_below (suc m) f = cond (some_below m f) (first_below m f) (cond (f m) m (suc m))
