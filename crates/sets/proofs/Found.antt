-- `find` and `any` over the numbers below a limit, by a test that the closure computes.
use Rattle.std.proofs.Common.{◌≡◌, ℕ, ◌<◌, ◌≤◌, Bool, true, false, List, length, get_or, Some, None, Option, sym, refl, ◌∙◌, zero-add, subst, arith}
use Rattle.std.specs.Prelude.{⊤, MatchBool, MatchOption}
use Rattle.std.specs.Fn.{Called, CalledAt}
use Rattle.std.specs.Iterator.{YieldsThen}
use Rattle.std.specs.List.{FoldsTo, AllWithin, HoldsAt, range_with_len}
use Rattle.std.specs.declared.ops.Range.{Range}
use Rattle.std.proofs.iter.Yields.{nat_range_steps}
use Rattle.std.proofs.lemmas.Iterator.{first_from_Range, cases_from_any, YieldsList-from_range}
use Rattle.std.proofs.lemmas.List.FromFn.{length-range_with_len, get_or-range_with_len}
use denote.Param.Members.{Mut}
use denote.Ref.{Bor}
use Rattle.sets.specs.Below.{IsLowest, NoneBelow, SomeBelow, some_below}
use Rattle.sets.proofs.Below.{some-cases}

lowest-of : (n : ℕ) (test : ℕ → Bool) (r : Option ℕ)
    → MatchOption r ((k : ℕ) → 0 ≤ k → k < n → test k ≡ false) (λ i. (0 ≤ i) × (i < n) × (test i ≡ true) × ((k : ℕ) → 0 ≤ k → k < i → test k ≡ false))
    → MatchOption r (NoneBelow n test) (IsLowest n test)
lowest-of n test None h = λ k l. h k (omega arith) l
lowest-of n test (Some i) h = record { below = h.1; passes = h.2; first = λ k l. h.3 k (omega arith) l }

-- `find`
pub lowest-found : {F : Type 0} {g : Mut F (Bor ℕ × Unit {0}) Bool} (n : ℕ) (test : ℕ → Bool) (u : Range ℕ) (f : F) (r : Option ℕ)
    → (xs : List ℕ) × (j : F) × YieldsThen nat_range_steps (record { start = 0; end = n }) xs r u × FoldsTo (λ p x q. CalledAt g p x false q) f xs j × MatchOption r ⊤ (λ x. (h : F) × CalledAt g j x true h)
    → ((x : ℕ) (b : Bool) (q : F) → CalledAt g f x b q → (q ≡ f) × (b ≡ test x))
    → MatchOption r (NoneBelow n test) (IsLowest n test)
lowest-found n test u f r ran told = lowest-of n test r
    (first_from_Range (record { start = 0; end = n }) u f r (λ k. test k ≡ true) (λ k. test k ≡ false) ran
    (λ x q k. sym (told x true q k).1) (λ x q k. ((told x false q k).0, sym (told x false q k).1)))

-- a number below the limit stands at its own place among them
at-place : (n k : ℕ) → k < n → get_or (range_with_len 0 n) k 0 ≡ k
at-place n k l = get_or-range_with_len 0 n k 0 l ∙ zero-add k

some-of : (n : ℕ) (test : ℕ → Bool) (r : Bool)
    → MatchBool r ((k : ℕ) × (k < length (range_with_len 0 n)) × HoldsAt (λ k. test k ≡ true) (range_with_len 0 n) k)
    (AllWithin (λ k. test k ≡ false) (range_with_len 0 n) 0 (length (range_with_len 0 n)))
    → MatchBool r (SomeBelow n test) (NoneBelow n test)
some-of n test true h =
    let l : h.0 < n = omega (arith, length-range_with_len 0 n, h.1) in
    record { at = h.0; below = l; passes = subst (λ (j : ℕ). test j ≡ true) (at-place n h.0 l) (h.2 0) }
some-of n test false h = λ k l. subst (λ (j : ℕ). test j ≡ false) (at-place n k l) (h k 0 (omega arith) (omega (arith, length-range_with_len 0 n)))

-- `any`
pub some-found : {F : Type 0} {g : Mut F (ℕ × Unit {0}) Bool} (n : ℕ) (test : ℕ → Bool) (u : Range ℕ) (f : F) (r : Bool)
    → (xs : List ℕ) × (o : Option ℕ) × (j : F) × YieldsThen nat_range_steps (record { start = 0; end = n }) xs o u × FoldsTo (λ p x q. Called g p (x, tt) false q) f xs j × MatchOption o (r ≡ false) (λ x. (r ≡ true) × ((h : F) × Called g j (x, tt) true h))
    → ((x : ℕ) (b : Bool) (q : F) → Called g f (x, tt) b q → (q ≡ f) × (b ≡ test x))
    → r ≡ some_below n test
some-found n test u f r ran told = some-cases n test r (some-of n test r
    (cases_from_any u f r (λ k. test k ≡ true) (λ k. test k ≡ false) ran (YieldsList-from_range 0 n n refl (omega arith))
    (λ x q k. sym (told x true q k).1) (λ x q k. ((told x false q k).0, sym (told x false q k).1))))
