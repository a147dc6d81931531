-- The potential falls with every tick in which a task has the core.
use Rattle.std.proofs.Common.{◌≡◌, ℕ, ◌+◌, ◌<◌, ◌≤◌, Bool, true, false, cond, eqb, sym, refl, ap, ◌∙◌, inl, inr, arith}
use Rattle.std.proofs.lemmas.Bool.Decides.{nat_tests, eqb_tells, leb_tells}
use Rattle.sets.proofs.Below.{bool_tells}
use Rattle.resource.specs.Seen.{Seen}
use Rattle.analysis.specs.Floor.{Floor}
use Rattle.analysis.specs.Charges.{scrub_cost}
use Rattle.runs.specs.State.{State, tainted, chosen}
use Rattle.runs.specs.Run.{Proper}
use Rattle.runs.proofs.Sums.{zero_or, spike, sum-fall, sum-none}
use Rattle.runs.proofs.Shape.{Shape, needs, stayed, called, nobody, choice, target, chosen-left, target-under, target-tainted, target-used, target_none}
use Rattle.runs.proofs.Effects.{Cleaned, Served}
use Rattle.runs.proofs.Taint.{scrub-others, scrub-going, scrub-done, run-free}
use Rattle.runs.proofs.Potential.{dirt_on, dirt, begun, outranked, scrub_due, owes, outranked-same, outranked-none, outranked-some, due-off, due-whole, due-top, due-under, owes-none, owes-some, dirt-le}

module _ (f : Floor) (pr : Proper f) (s : State) (x : Seen) (sh : Shape f s x) where
  -- a task with a job that a tick passes over may still have to scrub all its ways
  pub passed-due : (k : ℕ) → (k ≡ chosen f s → ⊥) → k < f.tasks → scrub_cost f k ≤ scrub_due f s x k
  passed-due k ne b = elim (eqb_tells k s.holder) [
    | inr e ↦ omega (arith, due-off f s x k e.1)
    | inl e ↦ elim (choice f s x sh) [
      | stayed p h r ↦ absurd (omega (arith, e.1))
      | called a l q u w ↦
          let held = sh.holds (omega (arith, e.1)) in
          let lt : chosen f s < k = elim (leb_tells (chosen f s) k) [ inl c ↦ omega (arith, c.1) | inr c ↦ absurd (omega (arith, q k c.1, ap s.left e.1, held)) ] in
          omega (arith, due-under f s x k e.1 (ap f.whole e.1 ∙ w (omega (arith, e.1))) (outranked-some s k (chosen f s) lt l))
      | nobody p q u w ↦ absurd (omega (arith, q k b, ap s.left e.1, sh.holds (omega (arith, e.1))))
    ]
  ]

  module _ (t : State) (y : Seen) where
    -- a scrub takes dirt away
    pub scrub-dirt : (done : Bool) → Cleaned f s x done t y → dirt f t y (chosen f s) + 1 ≤ dirt f s x (chosen f s)
    unfolding dirt dirt_on
    scrub-dirt done d =
        sum-fall f.ways (dirt_on f t y (chosen f s)) (dirt_on f s x (chosen f s)) (target f s) 1 d.dirty (λ w l. elim (eqb_tells w (target f s)) [
          | inl e ↦ here done d w l e.1
          | inr e ↦ there w l e.1
        ])
      where
        Falls : ℕ → Type 0
        Falls w = cond (tainted f t (chosen f s) w) (cond (eqb w t.under) (y.left w) (f.cost w)) 0 + spike (target f s) 1 w
            ≤ cond (tainted f s (chosen f s) w) (cond (eqb w s.under) (x.left w) (f.cost w)) 0

        here : (b : Bool) → Cleaned f s x b t y → (w : ℕ) → w < f.ways → w ≡ target f s → Falls w
        here true d w l e =
            let law = needs f s x sh (chosen f s) (target f s) d.busy (target-used f s x sh d.dirty) in
            let was = target-tainted f s x sh d.dirty in
            let now = scrub-done f pr s x sh t y d (chosen f s) w l e in
            rw e (grind (arith, nat_tests, rw e at now))
        here false d w l e =
            let law = needs f s x sh (chosen f s) (target f s) d.busy (target-used f s x sh d.dirty) in
            let was = target-tainted f s x sh d.dirty in
            let now = scrub-going f pr s x sh t y d (chosen f s) (target f s) d.dirty in
            let less = d.fewer refl in
            let u = d.under in
            rw e (grind (arith, nat_tests))

        there : (w : ℕ) → w < f.ways → (w ≡ target f s → ⊥) → Falls w
        there w l ne =
            let same = scrub-others f pr s x sh t y done d (chosen f s) w l ne in
            let u = d.under in
            let tu : (s.under < f.ways → target f s ≡ s.under) = target-under f s x sh in
            let a : eqb w s.under ≡ false = grind (arith, nat_tests) in
            let b : eqb w t.under ≡ false = grind (arith, nat_tests) in
            let z : eqb w (target f s) ≡ false = grind (arith, nat_tests) in
            grind arith

    -- a run leaves nothing dirty for its own task
    pub run-dirt : Served f s t → dirt f t y (chosen f s) ≡ 0
    unfolding dirt dirt_on
    run-dirt d = sum-none f.ways (dirt_on f t y (chosen f s)) (λ w l. grind (arith, run-free f pr s x sh t y d w l))

    -- a scrub that goes on leaves fewer calls of what was begun
    pub scrub-begun : (done : Bool) → Cleaned f s x done t y → s.under < f.ways → begun f t y + 1 ≤ begun f s x
    unfolding begun
    scrub-begun true d u =
        let law = needs f s x sh (chosen f s) (target f s) d.busy (target-used f s x sh d.dirty) in
        let at = target-under f s x sh u in
        let now = d.under in
        let n : x.left (target f s) ≡ x.left s.under = ap x.left at in
        grind (arith, nat_tests)
    scrub-begun false d u =
        let at = target-under f s x sh u in
        let now = d.under in
        let less = d.fewer refl in
        let n : x.left (target f s) ≡ x.left s.under = ap x.left at in
        let m : y.left (target f s) ≡ y.left t.under = ap y.left (sym now) in
        grind (arith, nat_tests)

    scrub-due : (done : Bool) → Cleaned f s x done t y → scrub_due f t y (chosen f s) + 1 ≤ scrub_due f s x (chosen f s)
    scrub-due done d =
        let h = chosen f s in
        let lo : outranked t h ≡ outranked s h = outranked-same s t h (λ j l. d.left j (omega (arith, d.busy))) in
        let fall = scrub-dirt done d in
        elim (choice f s x sh) [
          | stayed e b r ↦ elim (bool_tells (f.whole h)) [
            | inl w ↦ omega (arith, due-whole f s x h e w, due-whole f t y h (sym d.holder) w, fall)
            | inr w ↦ elim (bool_tells (outranked s h)) [
              | inr o ↦ omega (arith, due-top f s x h e o, due-top f t y h (sym d.holder) (lo ∙ o), fall)
              | inl o ↦ elim r [
                | inl c ↦ absurd (grind (arith, ap f.whole e))
                | inr u ↦ omega (arith, due-under f s x h e w o, due-under f t y h (sym d.holder) w (lo ∙ o), scrub-begun done d u)
              ]
            ]
          ]
          | called a l q u w ↦
              let o : outranked s h ≡ false = outranked-none s h q in
              let now = due-top f t y h (sym d.holder) (lo ∙ o) in
              elim (eqb_tells h s.holder) [
                | inl e ↦ omega (arith, due-top f s x h e.1 o, now, fall)
                | inr e ↦ omega (arith, due-off f s x h e.1, now, fall, dirt-le f pr s x sh h a)
              ]
          | nobody e q u w ↦ absurd (omega (arith, d.busy))
        ]

    -- after a run that does not end the job, nothing is to be scrubbed for it
    run-due : Served f s t → 0 < t.left (chosen f s) → scrub_due f t y (chosen f s) ≡ 0
    run-due d more =
        let h = chosen f s in
        let now : h ≡ t.holder = grind (arith, nat_tests, d.holder) in
        let u = (target_none f s x sh d.clean).0 in
        let lo : outranked t h ≡ outranked s h = outranked-same s t h (λ j l. d.left_other j (omega (arith, d.busy)) (omega arith)) in
        let none = run-dirt d in
        elim (choice f s x sh) [
          | stayed e b r ↦ elim r [
            | inl c ↦ due-whole f t y h now (ap f.whole e ∙ c) ∙ none
            | inr c ↦ absurd (omega (arith, u))
          ]
          | called a l q u w ↦ due-top f t y h now (lo ∙ outranked-none s h q) ∙ none
          | nobody e q u w ↦ absurd (omega (arith, d.busy))
        ]

    -- the tasks that a tick passes over owe no more than before
    pub passed : (k : ℕ) → (k ≡ chosen f s → ⊥) → k < f.tasks → t.left k ≡ s.left k → (k ≡ t.holder → ⊥) → owes f t y k ≤ owes f s x k
    passed k ne b same off = elim (zero_or (s.left k)) [
      | inl z ↦ omega (arith, owes-none f t y k (same ∙ z))
      | inr z ↦ omega (arith, owes-some f t y k (omega (arith, same)), owes-some f s x k z, same, due-off f t y k off, passed-due k ne b)
    ]

    -- and the tick's own task less
    pub scrub-owes : (done : Bool) → Cleaned f s x done t y → owes f t y (chosen f s) + 1 ≤ owes f s x (chosen f s)
    scrub-owes done d =
        let h = chosen f s in
        let z = chosen-left f s x sh d.busy in
        let same = d.left h d.busy in
        omega (arith, owes-some f s x h z, owes-some f t y h (omega (arith, same)), same, scrub-due done d)

    pub run-owes : Served f s t → owes f t y (chosen f s) + 1 ≤ owes f s x (chosen f s)
    run-owes d =
        let h = chosen f s in
        let z = chosen-left f s x sh d.busy in
        elim (zero_or (t.left h)) [
          | inl e ↦ omega (arith, owes-some f s x h z, owes-none f t y h e)
          | inr e ↦ omega (arith, owes-some f s x h z, owes-some f t y h e, d.left_one, run-due d e)
        ]
