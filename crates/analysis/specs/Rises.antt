-- What the tasks of higher priority take never falls as the number grows.
use Rattle.std.specs.Prelude.{ℕ, zero, suc, ◌+◌, ◌-◌, ◌/◌, ◌≤◌}
use Rattle.std.proofs.Common.{div-mul-le_self, le-div_iff_mul-le, mul-le-mul_right, arith}
use Rattle.std.proofs.Math.Nat.{div-zero}
use Rattle.taskset.specs.declared.task.Kind.{Kind}
use Rattle.taskset.specs.declared.task.Kind.TheVariants.{Split, Whole}
use Rattle.analysis.specs.declared.rivals.Rivals.{Rivals}
use Rattle.analysis.specs.Rivals.{jobs_in, rival_at, rival_sum}
use Rattle.analysis.specs.SumsLemmas.{sum-rises}

div-rises : (p x y : ℕ) → x ≤ y → x / p ≤ y / p
div-rises zero x y h = omega (arith, div-zero x)
div-rises (suc q) x y h = (le-div_iff_mul-le {k = suc q} {x = x / suc q} {y = y} (omega arith)).1 (omega (arith, div-mul-le_self x (suc q)))

jobs-rise : (kind : Kind) (p x y : ℕ) → x ≤ y → jobs_in kind x p ≤ jobs_in kind y p
jobs-rise Split p x y h = div-rises p (x + p - 1) (y + p - 1) (omega arith)
jobs-rise Whole p x y h = omega (arith, div-rises p x y h)

pub rival-rises : (r : Rivals) (kind : Kind) (x y : ℕ) → x ≤ y → rival_sum r kind x ≤ rival_sum r kind y
unfolding rival_sum
rival-rises r kind x y h = sum-rises r.count _ _ (λ j. mul-le-mul_right (rival_at r j).take (jobs-rise kind (rival_at r j).period x y h))
