-- The worked run: each tick by computing, and that a tick can do nothing else.
use Rattle.std.proofs.Common.{◌≡◌, ℕ, suc, ◌<◌, Bool, true, false, cond, ltb, sym, refl, ap, ◌∙◌, subst, ap₂, ⊎_elim, arith}
use Rattle.std.proofs.lemmas.Bool.Decides.{leb_tells, nat_tests}
use Rattle.sets.specs.Below.{some_below}
use Rattle.sets.specs.Member.{member}
use Rattle.sets.specs.Sets.{has, nobody, with_member}
use Rattle.resource.specs.declared.answer.Progress.{Progress}
use Rattle.resource.specs.declared.answer.Progress.TheVariants.{Done, UnderWay}
use Rattle.resource.specs.Answers.{is_done}
use Rattle.resource.specs.Seen.{Seen, ScrubOn}
use Rattle.analysis.specs.Floor.{Floor}
use Rattle.analysis.specs.FloorOf.{floor_of, figures_at}
use Rattle.runs.specs.declared.answer.TickAnswer.{TickAnswer}
use Rattle.runs.specs.declared.answer.TickAnswer.TheVariants.{Rest, Scrub, Run}
use Rattle.runs.specs.Calls.{Ticked, announcing, rested, scrubbed, served, taken, last_tick}
use Rattle.runs.specs.State.{Agree, State, chosen, fresh, pending, scrub_way, stays, tainted}
use Rattle.worked.specs.Run.{OneCall, WorkedRun, tick_answer, tick_state}

-- a scrub call on a way that needs at most one is done with it
done-at-once : (x : Seen) (w : ℕ) (p : Progress) (y : Seen) → OneCall x → ScrubOn x w p y → p ≡ Done
done-at-once x w Done y one r = refl
done-at-once x w UnderWay y one r = absurd (stuck (r.falls refl))
  where
    stuck : y.left w < x.left w → ⊥
    stuck l = ⊎_elim (λ q. omega (arith, r.after.least w, r.before.most w q.1, one w, l)) (λ q. omega (arith, r.after.least w, r.before.once w (omega (arith, q.1)), l)) (leb_tells (suc w) x.ways)

-- the first of two choices, and the second
in-tick : {A : Type 0} (a b c : A) {p q : Bool} → true ≡ p → true ≡ q → a ≡ cond p (cond q a b) c
in-tick a b c e g = ap₂ (λ (p q : Bool). cond p (cond q a b) c) e g

out-tick : {A : Type 0} (a b c : A) {p q : Bool} → true ≡ p → false ≡ q → b ≡ cond p (cond q a b) c
out-tick a b c e g = ap₂ (λ (p q : Bool). cond p (cond q a b) c) e g

-- a tick does what is computed of it
every : (f : Floor) (s : State) (x : Seen) (a : TickAnswer) (t : State) (y : Seen) → OneCall x → Ticked f s x a t y → (a ≡ tick_answer f s) × Agree f t (tick_state f s)
unfolding tick_answer tick_state
every f s x Rest t y one r =
    let no : ltb (chosen f s) f.tasks ≡ false = let h = r.nobody in grind (arith, nat_tests) in
    (ap (λ (b : Bool). cond b (cond (ltb (scrub_way f s (chosen f s)) f.ways) (Scrub (chosen f s) (scrub_way f s (chosen f s)) Done) (Run (chosen f s) (last_tick s (chosen f s)))) Rest) (sym no), subst (λ (b : Bool). Agree f t (cond b (cond (ltb (scrub_way f s (chosen f s)) f.ways) (scrubbed f (chosen f s) (scrub_way f s (chosen f s)) true s) (served f (chosen f s) s)) (rested f s))) (sym no) r.later)
every f s x (Scrub i w p) t y one r =
    let i-is = r.0.task in
    let w-is : w ≡ scrub_way f s (chosen f s) = r.0.way ∙ ap (scrub_way f s) i-is in
    let p-is = done-at-once x w p y one r.1 in
    let yes1 : ltb (chosen f s) f.tasks ≡ true = let h = r.0.listed in grind (arith, nat_tests) in
    let yes2 : ltb (scrub_way f s (chosen f s)) f.ways ≡ true = let h = r.0.there in grind (arith, nat_tests) in
    let sure : is_done p ≡ true = ap is_done p-is in
    let said : Scrub i w p ≡ Scrub (chosen f s) (scrub_way f s (chosen f s)) Done = cc in
    let left : scrubbed f i w (is_done p) s ≡ scrubbed f (chosen f s) (scrub_way f s (chosen f s)) true s = cc in
    (said ∙ in-tick (Scrub (chosen f s) (scrub_way f s (chosen f s)) Done) (Run (chosen f s) (last_tick s (chosen f s))) Rest (sym yes1) (sym yes2), subst (Agree f t) (left ∙ in-tick (scrubbed f (chosen f s) (scrub_way f s (chosen f s)) true s) (served f (chosen f s) s) (rested f s) (sym yes1) (sym yes2)) r.0.later)
every f s x (Run i ended) t y one r =
    let i-is = r.task in
    let yes1 : ltb (chosen f s) f.tasks ≡ true = let h = r.listed in grind (arith, nat_tests) in
    let no2 : ltb (scrub_way f s (chosen f s)) f.ways ≡ false = let h = r.clean in let e = ap (scrub_way f s) i-is in grind (arith, nat_tests) in
    let ends : ended ≡ last_tick s (chosen f s) = r.ends ∙ ap (last_tick s) i-is in
    let said : Run i ended ≡ Run (chosen f s) (last_tick s (chosen f s)) = cc in
    let left : served f i s ≡ served f (chosen f s) s = ap (λ (j : ℕ). served f j s) i-is in
    (said ∙ out-tick (Scrub (chosen f s) (scrub_way f s (chosen f s)) Done) (Run (chosen f s) (last_tick s (chosen f s))) Rest (sym yes1) (sym no2), subst (Agree f t) (left ∙ out-tick (scrubbed f (chosen f s) (scrub_way f s (chosen f s)) true s) (served f (chosen f s) s) (rested f s) (sym yes1) (sym no2)) r.later)

pub run-stands : WorkedRun
unfolding tick_answer tick_state floor_of figures_at has nobody with_member member some_below chosen scrub_way stays tainted pending fresh announcing taken rested scrubbed served
run-stands = record { every = every; one_taken = refl; one_runs = refl; zero_taken = refl; five = refl; nine = refl; ten = refl }
