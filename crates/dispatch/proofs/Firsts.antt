-- The lowest number below a limit that passes a test.
use Rattle.std.proofs.Common.{◌≡◌, ℕ, suc, ◌<◌, ◌≤◌, Bool, true, false, List, length, take, get_or, ap, ◌∙◌, sym, Some, None, Option, inl, inr, arith}
use Rattle.std.specs.Prelude.{MatchOption}
use Rattle.std.specs.List.{AllWithin, HoldsAt}
use Rattle.std.proofs.lemmas.Bool.Decides.{leb_tells}
use Rattle.std.proofs.lemmas.List.{get_or-take, length-take-le}
use Rattle.analysis.specs.Sums.{first_below}
use Rattle.runs.proofs.Sums.{first-tells, first-before}
use Rattle.dispatch.specs.Optional.{StandsFor, IsFirstBelow}

-- where none is found, none passes
pub first_past : (n : ℕ) (f : ℕ → Bool) → n ≤ first_below n f → (k : ℕ) → k < n → f k ≡ false
first_past n f l k m = first-before n f k (omega arith)

-- what is found stands for the first
pub first_stands : (n : ℕ) (f : ℕ → Bool) (o : Option ℕ) → IsFirstBelow n f o → StandsFor n (first_below n f) o
first_stands n f None h = elim (first-tells n f) [
  | inl e ↦ absurd (grind (arith, h (first_below n f) e.1, e.2))
  | inr e ↦ omega (arith, e.1)
]
first_stands n f (Some k) h = (
  elim (leb_tells (suc k) (first_below n f)) [
    | inl p ↦ absurd (grind (arith, first-before n f k p.1, h.passes))
    | inr p ↦ elim (first-tells n f) [
      | inl e ↦ elim (leb_tells (suc (first_below n f)) k) [
        | inl q ↦ absurd (grind (arith, h.first (first_below n f) q.1, e.2))
        | inr q ↦ omega (arith, p.1, q.1)
      ]
      | inr e ↦ absurd (omega (arith, p.1, e.1, h.below))
    ]
  ],
  h.below,
)

-- what `position` finds in a list
pub first-in : {A : Type 0} (xs : List A) (d : A) (test : A → Bool) (o : Option ℕ)
    → MatchOption o (AllWithin (λ x. test x ≡ false) xs 0 (length xs))
    (λ i. (i < length xs) × HoldsAt (λ x. test x ≡ true) xs i × AllWithin (λ x. test x ≡ false) xs 0 i)
    → IsFirstBelow (length xs) (λ k. test (get_or xs k d)) o
first-in xs d test None h = λ k l. h k d (omega arith) l
first-in xs d test (Some i) h = record { below = h.0; passes = h.1 d; first = λ k l. h.2 k d (omega arith) l }

-- what is found in the first n places of a list
pub first-among : {A : Type 0} (n : ℕ) (xs : List A) (d : A) (test : A → Bool) (o : Option ℕ) → n ≤ length xs
    → IsFirstBelow (length (take n xs)) (λ k. test (get_or (take n xs) k d)) o → IsFirstBelow n (λ k. test (get_or xs k d)) o
first-among n xs d test None few h = λ k l. ap test (sym (get_or-take n xs k d l)) ∙ h k (omega (arith, length-take-le n xs few))
first-among n xs d test (Some i) few h =
    let there : i < n = omega (arith, length-take-le n xs few, h.below) in
    record {
      below = there;
      passes = ap test (sym (get_or-take n xs i d there)) ∙ h.passes;
      first = λ k l. ap test (sym (get_or-take n xs k d (omega arith))) ∙ h.first k l;
    }
