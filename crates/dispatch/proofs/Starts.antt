-- What a start answers, and what scrubbing every way comes to.
use Rattle.std.proofs.Common.{◌≡◌, ℕ, suc, ◌<◌, ◌≤◌, Bool, true, false, cond, not, eqb, ltb, Some, None, Ok, Err, Result, sym, refl, ap, ◌∙◌, subst, ⊎_elim, arith, ltb-false}
use Rattle.std.proofs.lemmas.Bool.Decides.{nat_tests, eqb_tells, leb_tells}
use Rattle.resource.specs.Answers.{told16}
use Rattle.resource.specs.Seen.{Seen}
use Rattle.resource.specs.Until.{Cleared}
use Rattle.analysis.specs.Floor.{Floor}
use Rattle.analysis.specs.declared.plan.Plan.{Plan}
use Rattle.analysis.specs.PlanOf.{plan_floor}
use Rattle.analysis.specs.Sums.{first_below}
use Rattle.analysis.proofs.Plans.{plan-priced}
use Rattle.runs.specs.declared.fault.StartFault.{StartFault}
use Rattle.runs.specs.declared.fault.StartFault.TheVariants.{NoTask, OtherCosts}
use Rattle.runs.specs.State.{Agree, fresh}
use Rattle.runs.specs.Run.{Started}
use Rattle.dispatch.specs.declared.dispatcher.Dispatcher.{Dispatcher}
use Rattle.dispatch.specs.Optional.{StandsFor, IsFirstBelow}
use Rattle.dispatch.specs.View.{plan_of, state_of}
use Rattle.dispatch.specs.Start.{Fresh, differs, starting, Ready}
use Rattle.dispatch.proofs.Firsts.{first_stands, first_past}
use Rattle.dispatch.proofs.Plans.{uses-there}

not-refused : (a b : Bool) (w : ℕ) → ◌≡◌ {A = Result (Unit {0}) StartFault} (cond a (Err NoTask) (cond b (Err (OtherCosts w)) (Ok tt))) (Ok tt) → b ≡ false
not-refused true b w e = let z : ◌≡◌ {A = ℕ} 0 1 = cc in absurd (omega arith)
not-refused false true w e = let z : ◌≡◌ {A = ℕ} 0 1 = cc in absurd (omega arith)
not-refused false false w e = refl

module _ (f : Floor) (x : Seen) where
  same-cost : (w : ℕ) → differs f x w ≡ false → told16 (x.cost w) ≡ f.cost w
  same-cost w e = ⊎_elim (λ p. p.1) (λ p. let z : ◌≡◌ {A = ℕ} 0 1 = ap (λ b. cond b 0 1) (sym (ap not p.0) ∙ e) in absurd (omega arith)) (eqb_tells (told16 (x.cost w)) (f.cost w))

  -- refused at the lowest way of another cost
  pub start-other : (w : ℕ) → 1 ≤ f.tasks → StandsFor f.ways (first_below f.ways (differs f x)) (Some w) → starting f x ≡ Err (OtherCosts w)
  unfolding starting
  start-other w l h =
      let t : eqb f.tasks 0 ≡ false = grind (arith, nat_tests) in
      let e : first_below f.ways (differs f x) ≡ w = sym h.0 in
      let b : ltb (first_below f.ways (differs f x)) f.ways ≡ true = let i = h.1 in grind (arith, nat_tests) in
      simp (t, b) (ap (λ (v : ℕ). Err (OtherCosts v)) e)

  pub start-goes : 1 ≤ f.tasks → StandsFor f.ways (first_below f.ways (differs f x)) None → starting f x ≡ Ok tt
  unfolding starting
  start-goes l h =
      let t : eqb f.tasks 0 ≡ false = grind (arith, nat_tests) in
      let b : ltb (first_below f.ways (differs f x)) f.ways ≡ false = grind (arith, nat_tests) in
      simp (t, b)

  -- the same by what a search of eight ways found
  pub other-found : 1 ≤ f.tasks → f.ways ≡ 8 → (w : ℕ) → IsFirstBelow 8 (differs f x) (Some w) → starting f x ≡ Err (OtherCosts w)
  other-found l n w found =
      start-other w l (first_stands f.ways (differs f x) (Some w) (subst (λ (m : ℕ). IsFirstBelow m (differs f x) (Some w)) (sym n) found))

  pub none-found : 1 ≤ f.tasks → f.ways ≡ 8 → IsFirstBelow 8 (differs f x) None → starting f x ≡ Ok tt
  none-found l n found =
      start-goes l (first_stands f.ways (differs f x) None (subst (λ (m : ℕ). IsFirstBelow m (differs f x) None) (sym n) found))

  -- one that is not refused finds the floor's costs
  pub start-costs : starting f x ≡ Ok tt → (w : ℕ) → w < f.ways → told16 (x.cost w) ≡ f.cost w
  unfolding starting
  start-costs e w l =
      let first = first_below f.ways (differs f x) in
      let none-lower = ltb-false first f.ways (not-refused (eqb f.tasks 0) (ltb first f.ways) first e) in
      same-cost w (first_past f.ways (differs f x) (omega (arith, none-lower)) w l)

-- scrubbing every way leaves no trace, and the costs as they were
pub all-ready : (f : Floor) (x y : Seen) → Cleared x y → starting f x ≡ Ok tt → Ready f y
all-ready f x y c goes = record { sound = c.after; bare = c.bare; costs = λ w l. ap told16 (c.fixed.cost w) ∙ start-costs f x goes w l }

-- a fresh dispatcher over a resource that answers the plan's costs and has no trace is started
pub started : (p : Plan) (d : Dispatcher) → plan_of d ≡ p → Fresh d → (y : Seen) → Ready (plan_floor p) y → Started (plan_floor p) (state_of d) y
started p d same new y r =
    record {
      state = subst (λ (q : Plan). Agree (plan_floor q) (state_of d) (fresh (plan_floor q))) same new;
      sound = r.sound;
      bare = r.bare;
      there = λ i w l u.
          ⊎_elim (λ q. q.1) (λ q. let z = r.sound.free w (let g = q.1 in omega arith) in let e = priced i w l u in let c = plan-priced p i w l u in absurd (omega arith)) (leb_tells (suc w) y.ways);
      priced = priced;
    }
  where
    priced : (i w : ℕ) → i < (plan_floor p).tasks → (plan_floor p).uses i w ≡ true → y.cost w ≡ (plan_floor p).cost w
    priced i w l u = let e = r.costs w (uses-there p i w u) in let c = plan-priced p i w l u in omega (arith, e, c.1)
