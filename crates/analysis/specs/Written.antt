-- A list of which the first places are written.
use Rattle.std.specs.Prelude.{◌≡◌, ℕ, ◌<◌, ◌≤◌, List, length, slice_index}

-- the first n places of a list now hold these values, and the later ones what they held before
pub record Written (n : ℕ) (value : ℕ → ℕ) (before after : List ℕ) : Type 0 where
  pub same : length after ≡ length before
  pub first : (k : ℕ) → k < n → slice_index after k ≡ value k
  pub later : (k : ℕ) → n ≤ k → slice_index after k ≡ slice_index before k
