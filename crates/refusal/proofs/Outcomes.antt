-- A call's answer and what stands after it, where what it makes of the thing is known.
use Rattle.std.proofs.Common.{◌≡◌, Result, sym, ap}
use Rattle.refusal.specs.Outcome.{after, answered}

pub answered-at : {S A E : Type 0} (a : A) {o p : Result S E} → o ≡ p → answered a p ≡ answered a o
answered-at a e = ap (answered a) (sym e)

pub after-at : {S E : Type 0} (s : S) {o p : Result S E} → o ≡ p → after s p ≡ after s o
after-at s e = ap (after s) (sym e)
