-- Which ways must be scrubbed for a task: only guarded ones, and what each call does to them.
use Rattle.std.proofs.Common.{◌≡◌, ℕ, ◌<◌, Bool, true, false, not, ◌&&◌, eqb, ap, inl, inr, arith}
use Rattle.std.proofs.lemmas.Bool.Decides.{nat_tests, eqb_tells}
use Rattle.sets.specs.Below.{some_below}
use Rattle.sets.proofs.Below.{bool_tells, some-true, some_at, none-at, some-false, some-ext}
use Rattle.resource.specs.Seen.{Seen}
use Rattle.analysis.specs.Floor.{Floor}
use Rattle.analysis.specs.Charges.{guarded}
use Rattle.runs.specs.State.{State, tainted, chosen}
use Rattle.runs.specs.Run.{Proper}
use Rattle.runs.proofs.Sums.{and_left, and_right, and_both}
use Rattle.runs.proofs.Shape.{Shape, target, target_none}
use Rattle.runs.proofs.Effects.{Cleaned, Served}

pub tainted-same : (f : Floor) (s t : State) → ((w k : ℕ) → w < f.ways → k < f.tasks → t.recorded w k ≡ s.recorded w k)
    → (k w : ℕ) → w < f.ways → tainted f t k w ≡ tainted f s k w
unfolding tainted
tainted-same f s t same k w v =
    let e = some-ext f.tasks (λ j. t.recorded w j && f.noleak j k) (λ j. s.recorded w j && f.noleak j k) (λ j l. grind (arith, same w j v l)) in
    grind arith

module _ (f : Floor) (pr : Proper f) (s : State) (x : Seen) (sh : Shape f s x) where
  pub tainted-guarded : (k w : ℕ) → w < f.ways → tainted f s k w ≡ true → guarded f k w ≡ true
  unfolding tainted guarded
  tainted-guarded k w v h =
      let p = λ (j : ℕ). s.recorded w j && f.noleak j k in
      let uses = and_left (f.uses k w) (some_below f.tasks p) h in
      let r = some_at f.tasks p (and_right (f.uses k w) (some_below f.tasks p) h) in
      let j = r.0 in
      let on = and_left (s.recorded w j) (f.noleak j k) r.2 in
      let leak = and_right (s.recorded w j) (f.noleak j k) r.2 in
      let own = sh.owners w j v r.1 on in
      let g = λ (j : ℕ). not (eqb j k) && (f.uses j w && f.noleak j k) in
      let other : eqb j k ≡ false = elim (eqb_tells j k) [ inl e ↦ grind (arith, ap (λ i. f.noleak i k) e.1, pr.apart k) | inr e ↦ e.0 ] in
      let here : g j ≡ true = grind arith in
      and_both (f.uses k w) (some_below f.tasks g) uses (some-true f.tasks g j r.1 here)

  module _ (t : State) (y : Seen) where
    -- a scrub leaves the other ways alone
    pub scrub-others : (done : Bool) → Cleaned f s x done t y → (k w : ℕ) → w < f.ways → (w ≡ target f s → ⊥) → tainted f t k w ≡ tainted f s k w
    unfolding tainted
    scrub-others done d k w v ne =
        let e = some-ext f.tasks (λ j. t.recorded w j && f.noleak j k) (λ j. s.recorded w j && f.noleak j k)
        (λ j l. grind (arith, d.recorded w j v l, nat_tests)) in
        grind arith

    -- a scrub under way leaves all ways as they are recorded
    pub scrub-going : Cleaned f s x false t y → (k w : ℕ) → w < f.ways → tainted f t k w ≡ tainted f s k w
    unfolding tainted
    scrub-going d k w v =
        let e = some-ext f.tasks (λ j. t.recorded w j && f.noleak j k) (λ j. s.recorded w j && f.noleak j k)
        (λ j l. grind (arith, d.recorded w j v l)) in
        grind arith

    -- a scrub that is done leaves its way free for everybody
    pub scrub-done : Cleaned f s x true t y → (k w : ℕ) → w < f.ways → w ≡ target f s → tainted f t k w ≡ false
    unfolding tainted
    scrub-done d k w v e =
        let none = some-false f.tasks (λ j. t.recorded w j && f.noleak j k) (λ j l. grind (arith, d.recorded w j v l, nat_tests)) in
        grind arith

    -- a run leaves nothing to scrub for its own task
    pub run-free : Served f s t → (w : ℕ) → w < f.ways → tainted f t (chosen f s) w ≡ false
    unfolding tainted
    run-free d w l =
        let h = chosen f s in
        let was : (f.uses h w && some_below f.tasks (λ j. s.recorded w j && f.noleak j h)) ≡ false = (target_none f s x sh d.clean).1 w l in
        elim (bool_tells (f.uses h w)) [
          | inr e ↦ grind arith
          | inl e ↦
              let none : some_below f.tasks (λ j. s.recorded w j && f.noleak j h) ≡ false = grind arith in
              let now = some-false f.tasks (λ j. t.recorded w j && f.noleak j h) (λ j b.
              let q : (s.recorded w j && f.noleak j h) ≡ false = none-at f.tasks (λ j. s.recorded w j && f.noleak j h) none j b in
              elim (eqb_tells j h) [
                | inl p ↦ grind (arith, ap (λ i. f.noleak i h) p.1, pr.apart h)
                | inr p ↦ grind (arith, d.recorded w j l b)
              ]) in
              grind arith
        ]
