-- Sums and largest values below a limit.
use Rattle.std.specs.Prelude.{◌≡◌, ℕ, zero, suc, ◌+◌, ◌<◌, ◌≤◌, max, refl}
use Rattle.std.proofs.Common.{ap₂, add-one, arith}
use Rattle.analysis.specs.Sums.{sum_below, most_below}

-- terms that agree below the limit
pub sum-ext : (n : ℕ) (f g : ℕ → ℕ) → ((k : ℕ) → k < n → f k ≡ g k) → sum_below n f ≡ sum_below n g
sum-ext zero f g h = refl
sum-ext (suc n) f g h = ap₂ (λ a b. a + b) (sum-ext n f g (λ k l. h k (omega arith))) (h n (omega arith))

pub most-ext : (n : ℕ) (f g : ℕ → ℕ) → ((k : ℕ) → k < n → f k ≡ g k) → most_below n f ≡ most_below n g
most-ext zero f g h = refl
most-ext (suc n) f g h = ap₂ (λ a b. max a b) (most-ext n f g (λ k l. h k (omega arith))) (h n (omega arith))

-- larger terms, larger sum
pub sum-rises : (n : ℕ) (f g : ℕ → ℕ) → ((k : ℕ) → f k ≤ g k) → sum_below n f ≤ sum_below n g
sum-rises zero f g h = omega arith
sum-rises (suc n) f g h = omega (arith, sum-rises n f g h, h n)

-- one term more, in a loop
pub sum_more : (n : ℕ) (f : ℕ → ℕ) (s x : ℕ) → s ≡ sum_below n f → x ≡ f n → s + x ≡ sum_below (n + 1) f
sum_more n f s x p q = rw add-one (ap₂ (λ a b. a + b) p q)

pub most-more : (n : ℕ) (f : ℕ → ℕ) (s x : ℕ) → s ≡ most_below n f → x ≡ f n → max s x ≡ most_below (n + 1) f
most-more n f s x p q = rw add-one (ap₂ (λ a b. max a b) p q)
