-- Lists that are written place after place.
use Rattle.std.proofs.Common.{ℕ, ◌+◌, ◌<◌, ◌≢◌, List, length, get_or, set, arith, get_or-set_other, get_or-set_same, below_more}

-- what holds of all places below n, and of the value that comes into place n
pub written-more : {X : Type 0} (P : ℕ → X → Type 0) (xs : List X) (n : ℕ) (x d : X) → n < length xs → ((k : ℕ) → k < n → P k (get_or xs k d)) → P n x → (k : ℕ) → k < n + 1 → P k (get_or (set xs n x) k d)
written-more P xs n x d l h e =
    below_more (λ k. P k (get_or (set xs n x) k d)) n
    (λ k m. let ne : k ≢ n = omega arith in rw get_or-set_other (h k m))
    (rw get_or-set_same e)
