-- A bound by computing: tests of a floor, and what they say.
use Rattle.std.proofs.Common.{◌≡◌, ℕ, zero, suc, ◌+◌, ◌-◌, ◌<◌, Bool, true, false, not, ◌&&◌, ltb, leb, ⊎_elim, arith, leb-true}
use Rattle.std.proofs.lemmas.Bool.Decides.{nat_tests, leb_tells}
use Rattle.sets.specs.Below.{some_below}
use Rattle.sets.proofs.Below.{none-at}
use Rattle.analysis.specs.Bounds.{IsLeast, IsBound, split_demand, whole_demand}
use Rattle.analysis.specs.Charges.{scrub_cost}
use Rattle.analysis.specs.Floor.{Floor}
use Rattle.analysis.specs.Least.{Unbounded}
use Rattle.analysis.specs.Verdict.{Ready, strays, dear}
use Rattle.analysis.proofs.Floors.{bound-unique, split-bound, whole-bound}
use Rattle.worked.specs.Worked.{Comes}

-- y is one that the demand does not pass
abbrev meets : (ℕ → ℕ) → ℕ → ℕ → Bool
meets d low y = leb low y && leb (d y) y

-- x is, and no lower number is
abbrev pub least_test : (ℕ → ℕ) → ℕ → ℕ → Bool
least_test d low x = meets d low x && not (some_below x (meets d low))

least_by : (d : ℕ → ℕ) (low x : ℕ) → least_test d low x ≡ true → IsLeast d low x
least_by d low x e =
    let none : some_below x (meets d low) ≡ false = grind (arith, e) in
    record {
      from = grind (arith, nat_tests, e);
      meets = grind (arith, nat_tests, e);
      first = λ y lo m. ⊎_elim (λ p. p.1) (λ p. let n = none-at x (meets d low) none y p.1 in let z : ◌≡◌ {A = ℕ} 0 1 = grind (arith, nat_tests, n, lo, m) in absurd (omega arith)) (leb_tells x y);
    }

-- a split task's bound, and a whole one's by its start
pub split_by : (f : Floor) (i b : ℕ) → f.whole i ≡ false → least_test (split_demand f i) 1 b ≡ true → IsBound f i b
split_by f i b k e = split-bound f i b k (least_by (split_demand f i) 1 b e)

pub whole_by : (f : Floor) (i s b : ℕ) → f.whole i ≡ true → least_test (whole_demand f i) 0 s ≡ true → b ≡ s + scrub_cost f i + f.budget i → IsBound f i b
whole_by f i s b k e p = whole-bound f i b k (s, least_by (whole_demand f i) 0 s e, p)

-- within the deadline
pub comes : (f : Floor) (i b s : ℕ) → IsBound f i b → leb b (f.deadline i) ≡ true → f.deadline i - b ≡ s → Comes f i b s
comes f i b s h l e = record { bound = record { bound = h; met = leb-true b (f.deadline i) l }; slack = e }

-- or not
pub missed : (f : Floor) (i b : ℕ) → IsBound f i b → ltb (f.deadline i) b ≡ true → Unbounded f i
missed f i b h l x t = let e = bound-unique f i x b t.bound h in let m = t.met in let k : f.deadline i < b = leb-true (suc (f.deadline i)) b l in omega arith

-- all that is asked before the bounds
pub ready_by : (f : Floor) (ways room : ℕ) → ((ltb 0 f.tasks && not (some_below f.tasks (strays f ways))) && (not (some_below f.ways (dear f)) && leb f.tasks room)) ≡ true → Ready f ways room
ready_by f ways room e = record {
  some = grind (arith, nat_tests, e);
  there = none-at f.tasks (strays f ways) (grind (arith, e));
  cheap = none-at f.ways (dear f) (grind (arith, e));
  fits = grind (arith, nat_tests, e);
}

-- what holds of each of the first two, or three, numbers
pub of_two : (P : ℕ → Type 0) → P 0 → P 1 → (i : ℕ) → i < 2 → P i
of_two P a b zero l = a
of_two P a b (suc zero) l = b
of_two P a b (suc (suc i)) l = absurd (omega arith)

pub of_three : (P : ℕ → Type 0) → P 0 → P 1 → P 2 → (i : ℕ) → i < 3 → P i
of_three P a b c zero l = a
of_three P a b c (suc zero) l = b
of_three P a b c (suc (suc zero)) l = c
of_three P a b c (suc (suc (suc i))) l = absurd (omega arith)

pub of_one : (P : ℕ → Type 0) → P 0 → (i : ℕ) → i < 1 → P i
of_one P a zero l = a
of_one P a (suc i) l = absurd (omega arith)

pub of_none : (P : ℕ → Type 0) → (i : ℕ) → i < 0 → P i
of_none P i l = absurd (omega arith)
