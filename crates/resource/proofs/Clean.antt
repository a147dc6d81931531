-- What the answer to the clean question says of the traces.
use Rattle.std.proofs.Common.{◌≡◌, ℕ, ◌<◌, ◌≤◌, Bool, true, false, not, ◌&&◌, eqb, ltb, leb, sym, refl, ap, ◌∙◌, ⊎_elim, arith}
use Rattle.std.proofs.lemmas.Bool.Decides.{leb_tells, nat_tests}
use Rattle.sets.specs.Below.{some_below}
use Rattle.sets.proofs.Below.{some-true, some-false, some-ext, none-at}
use Rattle.resource.specs.Seen.{Seen, Sound, clean}

-- a clean way has no trace
pub clean-bare : (x : Seen) → Sound x → (w : ℕ) → clean x w ≡ true → (k : ℕ) → x.traces w k ≡ false
clean-bare x ok w e k =
    ⊎_elim
    (λ p. ok.tasks w k p.1)
    (λ p. let f : some_below 16 (x.traces w) ≡ false = grind arith in none-at 16 (x.traces w) f k p.1)
    (leb_tells 16 k)

-- a way without a trace is clean
pub bare-clean : (x : Seen) (w : ℕ) → ((k : ℕ) → x.traces w k ≡ false) → clean x w ≡ true
bare-clean x w h = ap not (some-false 16 (x.traces w) (λ k l. h k))

-- a way at or past the last is clean
pub past-clean : (x : Seen) → Sound x → (w : ℕ) → x.ways ≤ w → clean x w ≡ true
past-clean x ok w l = bare-clean x w (ok.bare w l)

-- a trace makes the way dirty
pub trace-dirty : (x : Seen) (w k : ℕ) → k < 16 → x.traces w k ≡ true → clean x w ≡ false
trace-dirty x w k l e = ap not (some-true 16 (x.traces w) k l e)

pub clean-kept : (x y : Seen) (w : ℕ) → ((k : ℕ) → y.traces w k ≡ x.traces w k) → clean y w ≡ clean x w
clean-kept x y w h = ap not (some-ext 16 (y.traces w) (x.traces w) (λ k l. h k))

-- how an implementation shows its answer: true where no task has a trace, false where one has
pub clean-by : (x : Seen) (w : ℕ) (b : Bool) → (b ≡ true → (k : ℕ) → k < 16 → x.traces w k ≡ false) → (b ≡ false → (k : ℕ) × (k < 16) × (x.traces w k ≡ true)) → b ≡ clean x w
clean-by x w true none some = sym (ap not (some-false 16 (x.traces w) (none refl)))
clean-by x w false none some = let h = some refl in sym (ap not (some-true 16 (x.traces w) h.0 h.1 h.2))

-- a way that shows one owner is clean where the owner is no task
pub owner-clean : (x : Seen) (w owner : ℕ) → ((k : ℕ) → x.traces w k ≡ (ltb k 16 && eqb owner k)) → leb 16 owner ≡ clean x w
owner-clean x w owner h =
    ⊎_elim
    (λ p. p.0 ∙ sym (bare-clean x w (λ k. let e = h k in grind (arith, nat_tests))))
    (λ p. let e = h owner in p.0 ∙ sym (trace-dirty x w owner (omega arith) (grind (arith, nat_tests))))
    (leb_tells 16 owner)
