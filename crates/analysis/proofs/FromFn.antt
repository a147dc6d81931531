-- `array::from_fn` by a closure that changes nothing.
use Rattle.std.proofs.Common.{◌≡◌, ℕ, zero, suc, ◌+◌, ◌<◌, ◌≤◌, List, get_or, sym, subst, ⊎_elim, arith}
use Rattle.std.proofs.lemmas.Bool.Decides.{eqb_tells}
use Rattle.std.specs.Fn.{Called}
use Rattle.std.specs.Array.{IsFromFnResult, IsFromFnResultFrom}
use denote.Param.Members.{Mut}

-- what the closure gives at each number holds of the place of that number
module _ {F B : Type 0} {g : Mut F (ℕ × Unit {0}) B} (P : ℕ → B → Type 0) (f : F) (ys : List B)
    (told : (i : ℕ) (y : B) (q : F) → Called g f (i, tt) y q → (q ≡ f) × P i y) where
  from-there : (i n : ℕ) → IsFromFnResultFrom g f ys i n → (k : ℕ) (e : B) → i ≤ k → k < i + n → P k (get_or ys k e)
  from-there i zero r k e l m = absurd (omega arith)
  from-there i (suc n) r k e l m =
      let given = told i r.1 r.0 r.3 in
      ⊎_elim
      (λ p. subst (λ (j : ℕ). P j (get_or ys j e)) (sym p.1) (subst (P i) (sym (r.2.1 e)) given.1))
      (λ p. from-there (i + 1) n (subst (λ (q : F). IsFromFnResultFrom g q ys (i + 1) n) given.0 r.4) k e (omega (arith, p.1)) (omega arith))
      (eqb_tells k i)

  pub from-each : (n : ℕ) → IsFromFnResult g f ys n → (k : ℕ) (e : B) → k < n → P k (get_or ys k e)
  from-each n r k e l = from-there 0 n r.each k e (omega arith) (omega arith)
