-- Sums, largest values and first places below a limit.
use Rattle.std.proofs.Common.{◌≡◌, ℕ, zero, suc, ◌+◌, ◌*◌, ◌<◌, ◌≤◌, Bool, true, false, cond, ◌&&◌, eqb, ◌≢◌, ◌⊎◌, refl, ap, inl, inr, arith}
use Rattle.std.proofs.lemmas.Bool.Decides.{nat_tests, eqb_tells}
use Rattle.sets.specs.Below.{some_below}
use Rattle.sets.proofs.Below.{none-at}
use Rattle.analysis.specs.Sums.{sum_below, most_below, first_below}

pub and_left : (a b : Bool) → (a && b) ≡ true → a ≡ true
and_left true b h = refl
and_left false b h = h

pub and_right : (a b : Bool) → (a && b) ≡ true → b ≡ true
and_right true b h = h
and_right false b h = grind arith

pub and_both : (a b : Bool) → a ≡ true → b ≡ true → (a && b) ≡ true
and_both a b p q = grind arith

pub zero_or : (n : ℕ) → (n ≡ 0) ⊎ (0 < n)
zero_or n = elim (eqb_tells n 0) [ inl e ↦ inl e.1 | inr e ↦ inr (omega (arith, e.1)) ]

-- a at place l, and 0 at every other
abbrev pub spike : ℕ → ℕ → ℕ → ℕ
spike l a k = cond (eqb k l) a 0

pub spike-here : (l a : ℕ) → spike l a l ≡ a
spike-here l a = grind (arith, nat_tests)

pub spike-off : (l a k : ℕ) → k ≢ l → spike l a k ≡ 0
spike-off l a k h = grind (arith, nat_tests)

pub sum_mono : (m : ℕ) (f g : ℕ → ℕ) → ((k : ℕ) → k < m → f k ≤ g k) → sum_below m f ≤ sum_below m g
sum_mono zero f g h = omega arith
sum_mono (suc m) f g h = omega (arith, sum_mono m f g (λ k l. h k (omega arith)), h m (omega arith))

pub sum_same : (m : ℕ) (f g : ℕ → ℕ) → ((k : ℕ) → k < m → f k ≡ g k) → sum_below m f ≡ sum_below m g
sum_same zero f g h = refl
sum_same (suc m) f g h = omega (arith, sum_same m f g (λ k l. h k (omega arith)), h m (omega arith))

pub sum-add : (m : ℕ) (f g : ℕ → ℕ) → sum_below m (λ k. f k + g k) ≡ sum_below m f + sum_below m g
sum-add zero f g = refl
sum-add (suc m) f g = omega (arith, sum-add m f g)

pub sum-none : (m : ℕ) (f : ℕ → ℕ) → ((k : ℕ) → k < m → f k ≡ 0) → sum_below m f ≡ 0
sum-none zero f h = refl
sum-none (suc m) f h = omega (arith, sum-none m f (λ k l. h k (omega arith)), h m (omega arith))

pub sum-part : (m : ℕ) (f : ℕ → ℕ) (l : ℕ) → l < m → f l ≤ sum_below m f
sum-part zero f l h = omega arith
sum-part (suc m) f l h = elim (eqb_tells l m) [ inl e ↦ omega (arith, ap f e.1) | inr e ↦ omega (arith, sum-part m f l (omega arith)) ]

-- a spike below the limit adds its height, and any other adds nothing
pub sum-spike : (m l a : ℕ) → l < m → sum_below m (spike l a) ≡ a
sum-spike zero l a h = omega arith
sum-spike (suc m) l a h = elim (eqb_tells m l) [
  | inl e ↦ omega (arith, sum-none m (spike l a) (λ k b. spike-off l a k (omega arith)), ap (λ k. spike l a k) e.1, spike-here l a)
  | inr e ↦ omega (arith, sum-spike m l a (omega arith), spike-off l a m e.1)
]

pub sum-spike-le : (m l a : ℕ) → sum_below m (spike l a) ≤ a
sum-spike-le zero l a = omega arith
sum-spike-le (suc m) l a = elim (eqb_tells m l) [
  | inl e ↦ omega (arith, sum-none m (spike l a) (λ k b. spike-off l a k (omega arith)), ap (λ k. spike l a k) e.1, spike-here l a)
  | inr e ↦ omega (arith, sum-spike-le m l a, spike-off l a m e.1)
]

-- terms that fall by a at one place and rise nowhere
pub sum-fall : (m : ℕ) (f g : ℕ → ℕ) (l a : ℕ) → l < m → ((k : ℕ) → k < m → f k + spike l a k ≤ g k) → sum_below m f + a ≤ sum_below m g
sum-fall m f g l a h r = omega (arith, sum_mono m (λ k. f k + spike l a k) g r, sum-add m f (spike l a), sum-spike m l a h)

-- terms that rise by a at one place, by b at another, and nowhere else
pub sum-rise : (m : ℕ) (f g : ℕ → ℕ) (l a h b : ℕ) → ((k : ℕ) → k < m → f k ≤ g k + (spike l a k + spike h b k)) → sum_below m f ≤ sum_below m g + (a + b)
sum-rise m f g l a h b r =
    omega (
      arith,
      sum_mono m f (λ k. g k + (spike l a k + spike h b k)) r,
      sum-add m g (λ k. spike l a k + spike h b k),
      sum-add m (spike l a) (spike h b),
      sum-spike-le m l a,
      sum-spike-le m h b,
    )

-- terms that differ by a at one place
pub sum_one : (m j a : ℕ) (f g : ℕ → ℕ) → j < m → f j ≡ g j + a → ((k : ℕ) → k < m → (k ≡ j → ⊥) → f k ≡ g k) → sum_below m f ≡ sum_below m g + a
sum_one m j a f g l h r =
    let same = sum_same m f (λ k. g k + spike j a k) (λ k b. elim (eqb_tells k j) [
      | inl e ↦ rw e.1 (omega (arith, h, spike-here j a))
      | inr e ↦ omega (arith, r k b e.1, spike-off j a k e.1)
    ]) in
    omega (arith, same, sum-add m g (spike j a), sum-spike m j a l)

-- one more of the j-th kind
pub sum-count : (i j : ℕ) (n k : ℕ → ℕ) → j < i → sum_below i (λ y. (n y + spike j 1 y) * k y) ≡ sum_below i (λ y. n y * k y) + k j
sum-count i j n k l =
    let same = sum_same i (λ y. (n y + spike j 1 y) * k y) (λ y. n y * k y + spike j (k j) y) (λ y b. elim (eqb_tells y j) [
      | inl e ↦ rw e.1 (omega (arith, spike-here j 1, spike-here j (k j), ap (λ d. (n j + d) * k j) (spike-here j 1)))
      | inr e ↦ omega (arith, spike-off j (k j) y e.1, ap (λ d. (n y + d) * k y) (spike-off j 1 y e.1))
    ]) in
    omega (arith, same, sum-add i (λ y. n y * k y) (spike j (k j)), sum-spike i j (k j) l)

pub most-at : (m : ℕ) (f : ℕ → ℕ) (k : ℕ) → k < m → f k ≤ most_below m f
most-at zero f k h = omega arith
most-at (suc m) f k h = elim (eqb_tells k m) [ inl e ↦ omega (arith, ap f e.1) | inr e ↦ omega (arith, most-at m f k (omega arith)) ]

pub most-le : (m : ℕ) (f : ℕ → ℕ) (a : ℕ) → ((k : ℕ) → k < m → f k ≤ a) → most_below m f ≤ a
most-le zero f a h = omega arith
most-le (suc m) f a h = omega (arith, most-le m f a (λ k l. h k (omega arith)), h m (omega arith))

-- what is found first, if anything is
abbrev First : ℕ → (ℕ → Bool) → Type 0
First m f = ((some_below m f ≡ true) × (first_below m f < m) × (f (first_below m f) ≡ true)) ⊎ ((some_below m f ≡ false) × (first_below m f ≡ m))

pub first-tells : (m : ℕ) (f : ℕ → Bool) → First m f
unfolding some_below
first-tells zero f = inr (refl, refl)
first-tells (suc m) f = elim (first-tells m f) [
  | inl e ↦ inl (grind arith, grind arith, grind arith)
  | inr e ↦ go (f m) refl e.0
]
  where
    go : (b : Bool) → f m ≡ b → some_below m f ≡ false → First (suc m) f
    go true e n = inl (grind arith, grind arith, grind arith)
    go false e n = inr (grind arith, grind arith)

pub first-before : (m : ℕ) (f : ℕ → Bool) (k : ℕ) → k < first_below m f → f k ≡ false
first-before zero f k h = grind arith
first-before (suc m) f k h = elim (first-tells m f) [
  | inl e ↦ first-before m f k (grind arith)
  | inr e ↦ elim (eqb_tells k m) [ inl d ↦ grind (arith, ap f d.1) | inr d ↦ none-at m f e.0 k (grind arith) ]
]
