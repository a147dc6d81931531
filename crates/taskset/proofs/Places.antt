-- Places of which the first n are in use, and the others are blank.
use Rattle.std.proofs.Common.{◌≡◌, ℕ, zero, suc, ◌+◌, ◌-◌, ◌<◌, List, [], ◌∷◌, ◌++◌, take, drop, ap, ◌∙◌, add-one, arith}
use Rattle.std.specs.Prelude.{replicate}

-- one place more in use
drop-more : {X : Type 0} (d : X) (n m : ℕ) (xs : List X) → drop n xs ≡ replicate (suc m) d → drop (suc n) xs ≡ replicate m d
drop-more d zero m [] h = cc
drop-more d zero m (x ∷ xs) h = cc
drop-more d (suc n) m [] h = cc
drop-more d (suc n) m (x ∷ xs) h = drop-more d n m xs h

take-more : {X : Type 0} (d : X) (n m : ℕ) (xs : List X) → drop n xs ≡ replicate (suc m) d → take (suc n) xs ≡ take n xs ++ d ∷ []
take-more d zero m [] h = cc
take-more d zero m (x ∷ xs) h = let e : x ≡ d = cc in ap (λ y. y ∷ []) e
take-more d (suc n) m [] h = cc
take-more d (suc n) m (x ∷ xs) h = ap (λ ys. x ∷ ys) (take-more d n m xs h)

-- the blank places after those in use, as one and the rest
blank : {X : Type 0} (d : X) (n : ℕ) (xs : List X) → n < 16 → drop n xs ≡ replicate (16 - n) d → drop n xs ≡ replicate (suc (15 - n)) d
blank d n xs l h = let e : 16 - n ≡ suc (15 - n) = omega arith in h ∙ ap (λ (k : ℕ). replicate k d) e

pub blank-more : {X : Type 0} (d : X) (n : ℕ) (xs : List X) → n < 16 → drop n xs ≡ replicate (16 - n) d → drop (n + 1) xs ≡ replicate (16 - (n + 1)) d
blank-more d n xs l h =
    let e : 15 - n ≡ 16 - (n + 1) = omega arith in
    rw add-one (drop-more d n (15 - n) xs (blank d n xs l h)) ∙ ap (λ (k : ℕ). replicate k d) e

pub used-more : {X : Type 0} (d : X) (n : ℕ) (xs : List X) → n < 16 → drop n xs ≡ replicate (16 - n) d → take (n + 1) xs ≡ take n xs ++ d ∷ []
used-more d n xs l h = rw add-one (take-more d n (15 - n) xs (blank d n xs l h))
