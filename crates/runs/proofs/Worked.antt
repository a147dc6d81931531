-- What a tick in which a task has the core takes off the backlog, whether it scrubs or runs.
use Rattle.std.proofs.Common.{◌≡◌, ℕ, ◌+◌, ◌-◌, ◌<◌, ◌≤◌, Bool, true, false, ◌⊎◌, sym, refl, ap, ◌∙◌, inl, inr, arith}
use Rattle.std.proofs.lemmas.Bool.Decides.{nat_tests, eqb_tells, leb_tells}
use Rattle.sets.proofs.Below.{bool_tells}
use Rattle.resource.specs.Seen.{Seen}
use Rattle.analysis.specs.Sums.{sum_below}
use Rattle.analysis.specs.Floor.{Floor}
use Rattle.analysis.specs.Charges.{hold_cost, dearest}
use Rattle.runs.specs.State.{State, chosen}
use Rattle.runs.specs.Run.{Proper}
use Rattle.runs.proofs.Sums.{spike-here, spike-off, sum-fall, sum_mono}
use Rattle.runs.proofs.Shape.{Shape, Unmoved, needs, target, chosen-left, target-tainted, target-used, target_none}
use Rattle.runs.proofs.Effects.{Older, Cleaned, Served}
use Rattle.runs.proofs.Taint.{tainted-guarded}
use Rattle.runs.proofs.Potential.{dirt, begun, owes, held_up, backlog, held-off, held_whole, held-split, begun-none, hold-whole, hold-split, dearest-at, dirt-le}
use Rattle.runs.proofs.Fall.{scrub-dirt, run-dirt, scrub-begun, passed, scrub-owes, run-owes}

-- what a tick that scrubs and one that runs have in common
pub record Worked (f : Floor) (s : State) (x : Seen) (t : State) (y : Seen) : Type 0 where
  pub busy : chosen f s < f.tasks
  pub older : Older f s t
  pub same : (k : ℕ) → k < f.tasks → (k ≡ chosen f s → ⊥) → t.left k ≡ s.left k
  -- the task keeps the core as long as its job has budget left
  pub held : (t.holder ≡ chosen f s) ⊎ (t.holder ≡ f.tasks)
  pub holds_on : 0 < t.left (chosen f s) → t.holder ≡ chosen f s
  -- what it owes falls, and so does what it may scrub and run
  pub falls : owes f t y (chosen f s) + 1 ≤ owes f s x (chosen f s)
  pub spends : t.left (chosen f s) + dirt f t y (chosen f s) + 1 ≤ s.left (chosen f s) + dirt f s x (chosen f s)
  -- a holder that keeps the core keeps it for less long; and after any tick for no longer than it is charged for
  pub frees : (b : ℕ) → b ≤ chosen f s → chosen f s ≡ s.holder → Unmoved f s → held_up f t y b + 1 ≤ held_up f s x b
  pub within : (b : ℕ) → (held_up f t y b ≡ 0) ⊎ ((b ≤ chosen f s) × (held_up f t y b ≤ hold_cost f (chosen f s)))

module _ (f : Floor) (pr : Proper f) (s : State) (x : Seen) (sh : Shape f s x) (t : State) (y : Seen) where
  begun-after : (done : Bool) → Cleaned f s x done t y → begun f t y ≤ dearest f (chosen f s) - 1
  unfolding begun
  begun-after true d = grind (arith, nat_tests, d.under)
  begun-after false d =
      let now = d.under in
      let less = d.fewer refl in
      let law = needs f s x sh (chosen f s) (target f s) d.busy (target-used f s x sh d.dirty) in
      let top = dearest-at f (chosen f s) (target f s) d.dirty
      (tainted-guarded f pr s x sh (chosen f s) (target f s) d.dirty (target-tainted f s x sh d.dirty)) in
      let m : y.left (target f s) ≡ y.left t.under = ap y.left (sym now) in
      grind (arith, nat_tests)

  pub worked-scrub : (done : Bool) → Cleaned f s x done t y → Worked f s x t y
  worked-scrub done d = record {
    busy = d.busy;
    older = d.older;
    same = λ k b ne. d.left k b;
    held = inl d.holder;
    holds_on = λ _. d.holder;
    falls = scrub-owes f pr s x sh t y done d;
    spends = omega (arith, d.left (chosen f s) d.busy, scrub-dirt f pr s x sh t y done d);
    frees = frees;
    within = within;
  }
    where
      frees : (b : ℕ) → b ≤ chosen f s → chosen f s ≡ s.holder → Unmoved f s → held_up f t y b + 1 ≤ held_up f s x b
      frees b l e r = elim (bool_tells (f.whole (chosen f s))) [
        | inl w ↦ omega (
          arith,
          held_whole f s x b (chosen f s) e l d.busy w,
          held_whole f t y b (chosen f s) (sym d.holder) l d.busy w,
          d.left (chosen f s) d.busy,
          scrub-dirt f pr s x sh t y done d,
        )
        | inr w ↦ elim r [
          | inl c ↦ absurd (grind (arith, ap f.whole e))
          | inr u ↦ omega (
            arith,
            held-split f s x b (chosen f s) e l d.busy w,
            held-split f t y b (chosen f s) (sym d.holder) l d.busy w,
            scrub-begun f pr s x sh t y done d u,
          )
        ]
      ]

      within : (b : ℕ) → (held_up f t y b ≡ 0) ⊎ ((b ≤ chosen f s) × (held_up f t y b ≤ hold_cost f (chosen f s)))
      within b = elim (leb_tells b (chosen f s)) [
        | inr l ↦ inl (held-off f t y b (inl (omega (arith, l.1, d.holder))))
        | inl l ↦ inr (
          l.1,
          elim (bool_tells (f.whole (chosen f s))) [
            | inl w ↦ omega (
              arith,
              held_whole f t y b (chosen f s) (sym d.holder) l.1 d.busy w,
              hold-whole f (chosen f s) w,
              scrub-dirt f pr s x sh t y done d,
              dirt-le f pr s x sh (chosen f s) d.busy,
              d.left (chosen f s) d.busy,
              sh.budget (chosen f s) d.busy,
            )
            | inr w ↦ omega (arith, held-split f t y b (chosen f s) (sym d.holder) l.1 d.busy w, hold-split f (chosen f s) w, begun-after done d)
          ],
        )
      ]

  pub worked-run : Served f s t → Worked f s x t y
  worked-run d = record {
    busy = d.busy;
    older = d.older;
    same = d.left_other;
    held = held;
    holds_on = λ z. grind (arith, nat_tests, d.holder);
    falls = run-owes f pr s x sh t y d;
    spends = omega (arith, d.left_one, run-dirt f pr s x sh t y d);
    frees = frees;
    within = within;
  }
    where
      held : (t.holder ≡ chosen f s) ⊎ (t.holder ≡ f.tasks)
      held = elim (eqb_tells (t.left (chosen f s)) 0) [ inl e ↦ inr (grind (arith, d.holder)) | inr e ↦ inl (grind (arith, d.holder)) ]

      frees : (b : ℕ) → b ≤ chosen f s → chosen f s ≡ s.holder → Unmoved f s → held_up f t y b + 1 ≤ held_up f s x b
      frees b l e (inr u) = absurd (omega (arith, (target_none f s x sh d.clean).0))
      frees b l e (inl c) =
          let w : f.whole (chosen f s) ≡ true = ap f.whole e ∙ c in
          let z = chosen-left f s x sh d.busy in
          let was = held_whole f s x b (chosen f s) e l d.busy w in
          elim (eqb_tells (t.left (chosen f s)) 0) [
            | inl q ↦ let off : t.holder ≡ f.tasks = grind (arith, d.holder) in omega (arith, held-off f t y b (inr (omega arith)), was)
            | inr q ↦ let on : t.holder ≡ chosen f s = grind (arith, d.holder) in
                omega (arith, held_whole f t y b (chosen f s) (sym on) l d.busy w, was, d.left_one, run-dirt f pr s x sh t y d)
          ]

      within : (b : ℕ) → (held_up f t y b ≡ 0) ⊎ ((b ≤ chosen f s) × (held_up f t y b ≤ hold_cost f (chosen f s)))
      within b = elim held [
        | inr off ↦ inl (held-off f t y b (inr (omega arith)))
        | inl on ↦ elim (leb_tells b (chosen f s)) [
          | inr l ↦ inl (held-off f t y b (inl (omega (arith, l.1))))
          | inl l ↦ elim (bool_tells (f.whole (chosen f s))) [
            | inl w ↦ inr (
              l.1,
              omega (
                arith,
                held_whole f t y b (chosen f s) (sym on) l.1 d.busy w,
                hold-whole f (chosen f s) w,
                run-dirt f pr s x sh t y d,
                d.left_one,
                sh.budget (chosen f s) d.busy,
              ),
            )
            | inr w ↦ inl (omega (arith, held-split f t y b (chosen f s) (sym on) l.1 d.busy w, begun-none f t y (omega (arith, d.under))))
          ]
        ]
      ]

  module _ (d : Worked f s x t y) where
    passes : (k : ℕ) → k < f.tasks → (k ≡ chosen f s → ⊥) → owes f t y k ≤ owes f s x k
    passes k b ne = passed f pr s x sh t y k ne b (d.same k b ne) (elim d.held [ inl e ↦ λ q. ne (q ∙ e) | inr e ↦ λ q. omega (arith, q, e) ])

    pub sum-falls : (m : ℕ) → m ≤ f.tasks → chosen f s < m → sum_below m (owes f t y) + 1 ≤ sum_below m (owes f s x)
    sum-falls m n l = sum-fall m (owes f t y) (owes f s x) (chosen f s) 1 l (λ k b. elim (eqb_tells k (chosen f s)) [
      | inl e ↦ rw e.1 (omega (arith, d.falls, spike-here (chosen f s) 1))
      | inr e ↦ omega (arith, spike-off (chosen f s) 1 k e.1, passes k (omega arith) e.1)
    ])

    sum-keeps : (m : ℕ) → m ≤ f.tasks → sum_below m (owes f t y) ≤ sum_below m (owes f s x)
    sum-keeps m n = sum_mono m (owes f t y) (owes f s x) (λ k b. elim (eqb_tells k (chosen f s)) [
      | inl e ↦ rw e.1 (omega (arith, d.falls))
      | inr e ↦ passes k (omega arith) e.1
    ])

    -- the tick is worked for a backlog if its task is below m, or a holder from b on that keeps the core
    pub backlog-falls : (m b : ℕ) → m ≤ f.tasks → m ≤ b → (chosen f s < m) ⊎ ((b ≤ chosen f s) × (chosen f s ≡ s.holder) × Unmoved f s)
        → backlog f t y m b + 1 ≤ backlog f s x m b
    unfolding backlog
    backlog-falls m b n l (inl h) =
        let off = held-off f t y b (elim d.held [ inl e ↦ inl (omega arith) | inr e ↦ inr (omega arith) ]) in
        omega (arith, sum-falls m n h, off)
    backlog-falls m b n l (inr h) = omega (arith, sum-keeps m n, d.frees b h.0 h.1 h.2)
