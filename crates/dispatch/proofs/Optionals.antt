-- A task or a way, or none, as a number.
use Rattle.std.proofs.Common.{◌≡◌, ℕ, ◌<◌, Bool, true, false, cond, eqb, ltb, Some, None, Option, unwrap_or, refl, arith}
use Rattle.std.specs.Bool.{then_some}
use Rattle.std.specs.Option.{ForSome, option_eq}
use Rattle.std.proofs.lemmas.Bool.Decides.{nat_tests}
use Rattle.dispatch.specs.Optional.{StandsFor}

-- one that is there stands for itself
pub stands_some : (n : ℕ) (o : Option ℕ) → ForSome o (λ k. k < n) → StandsFor n (unwrap_or o n) o
stands_some n None h = omega arith
stands_some n (Some k) h = (refl, h k refl)

-- it is task i where its number is i
pub is-task : (n : ℕ) (o : Option ℕ) (i : ℕ) → i < n → eqb (unwrap_or o n) i ≡ option_eq eqb o (Some i)
is-task n None i l = grind (arith, nat_tests)
is-task n (Some k) i l = refl

-- one that is there if a test says so
pub then_below : (b : Bool) (k n : ℕ) → k < n → ForSome (then_some b k) (λ j. j < n)
then_below true k n l j e = let s : k ≡ j = cc in omega arith
then_below false k n l j e = cc

then-value : (b : Bool) (k n : ℕ) → unwrap_or (then_some b k) n ≡ cond b k n
then-value true k n = refl
then-value false k n = refl

-- the task, if it has something left
pub left-value : (left k n : ℕ) → unwrap_or (then_some (ltb 0 left) k) n ≡ cond (eqb left 0) n k
left-value left k n = let v = then-value (ltb 0 left) k n in grind (arith, nat_tests)
