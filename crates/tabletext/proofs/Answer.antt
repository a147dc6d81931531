-- Answers one after the other.
use Rattle.std.proofs.Common.{◌≡◌, ℕ, Bool, true, false, cond, Ok, Err, Result, sym, refl, ap, ◌∙◌}
use Rattle.taskset.specs.Table.{Table}
use Rattle.tabletext.specs.declared.fault.FaultAt.{FaultAt}
use Rattle.tabletext.specs.declared.fault.LineFault.{LineFault}
use Rattle.tabletext.specs.declared.fault.TextFault.{TextFault}
use Rattle.tabletext.specs.declared.fault.TextFault.TheVariants.{Line}
use Rattle.tabletext.specs.Forms.{next}
use Rattle.tabletext.specs.Read.{placed, onward}

pub true-false : {P : Type 0} → true ≡ false → P
true-false e = absurd cc

pub both : {P : Type 0} (b : Bool) → b ≡ true → b ≡ false → P
both b t f = absurd cc

pub err-ok : {A E P : Type 0} {a : A} {e : E} → ◌≡◌ {A = Result A E} (Err e) (Ok a) → P
err-ok q = absurd cc

pub ok-err : {A E P : Type 0} {a : A} {e : E} → ◌≡◌ {A = Result A E} (Ok a) (Err e) → P
ok-err q = absurd cc

pub ok_same : {A E : Type 0} {a b : A} → ◌≡◌ {A = Result A E} (Ok a) (Ok b) → a ≡ b
ok_same q = cc

pub err-same : {A E : Type 0} {a b : E} → ◌≡◌ {A = Result A E} (Err a) (Err b) → a ≡ b
err-same q = cc

-- an answer Ok comes from answers Ok
pub next-ok : {A B E : Type 0} (r : Result A E) (k : A → Result B E) (u : B) → next r k ≡ Ok u → (a : A) × (r ≡ Ok a) × (k a ≡ Ok u)
next-ok (Ok a) k u e = (a, refl, e)
next-ok (Err f) k u e = err-ok e

-- an answer by a test with a value, against the bare test
pub test-step : {A B E : Type 0} (r : Result A E) (b : Bool) (v : A) (e : E) (k : A → Result B E) (x : Result (Unit {0}) E) (l : Unit {0} → Result B E) → r ≡ cond b (Ok v) (Err e) → k v ≡ next x l → next r k ≡ next (cond b x (Err e)) l
test-step r true v e k x l q h = ap (λ y. next y k) q ∙ h
test-step r false v e k x l q h = ap (λ y. next y k) q

-- a refused line ends the text
pub stopped : (p : ℕ) (r : Result Table LineFault) (a : FaultAt) (k : Table → Result Table TextFault) → Err a ≡ placed p r → onward k p r ≡ Err (Line a)
stopped p (Ok t) a k e = err-ok e
stopped p (Err f) a k e = ap (λ x. Err (Line x)) (sym (err-same e))
