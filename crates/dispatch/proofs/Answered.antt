-- What an announcement and a finish answer and leave, case by case.
use Rattle.std.proofs.Common.{◌≡◌, ℕ, ◌<◌, ◌≤◌, true, false, eqb, ltb, Ok, Err, Result, sym, refl, subst, arith}
use Rattle.std.proofs.lemmas.Bool.Decides.{nat_tests}
use Rattle.refusal.specs.Outcome.{after}
use Rattle.refusal.proofs.Outcomes.{answered-at}
use Rattle.resource.specs.Seen.{Seen}
use Rattle.analysis.specs.Floor.{Floor}
use Rattle.runs.specs.declared.fault.CallFault.{CallFault}
use Rattle.runs.specs.declared.fault.CallFault.TheVariants.{Unlisted, TooEarly, NotRunning}
use Rattle.runs.specs.State.{State, Agree}
use Rattle.runs.specs.Calls.{announcing, taken, finishing, closed, Announced, Finished}

module _ (f : Floor) (s : State) (i : ℕ) where
  -- every state agrees with itself
  pub agree_same : Agree f s s
  agree_same = record { age = λ k l. refl; left = λ k l. refl; holder = refl; under = refl; ran = refl; recorded = λ w k l m. refl }

  later-at : {o p : Result State CallFault} (t : State) → o ≡ p → Agree f t (after s p) → Agree f t (after s o)
  later-at t e a = subst (λ (q : Result State CallFault). Agree f t (after s q)) (sym e) a

  pub announced-refused : (e : CallFault) (x : Seen) → announcing f i s ≡ Err e → Announced f s x i (Err e) s x
  announced-refused e x h = record { answer = answered-at tt h; later = later-at s h agree_same; untouched = refl }

  pub announced-taken : (t : State) (x : Seen) → announcing f i s ≡ Ok (taken f i s) → Agree f t (taken f i s) → Announced f s x i (Ok tt) t x
  announced-taken t x h a = record { answer = answered-at tt h; later = later-at t h a; untouched = refl }

  pub finished-refused : (e : CallFault) (x : Seen) → finishing f i s ≡ Err e → Finished f s x i (Err e) s x
  finished-refused e x h = record { answer = answered-at tt h; later = later-at s h agree_same; untouched = refl }

  pub finished-closed : (t : State) (x : Seen) → finishing f i s ≡ Ok (closed f i s) → Agree f t (closed f i s) → Finished f s x i (Ok tt) t x
  finished-closed t x h a = record { answer = answered-at tt h; later = later-at t h a; untouched = refl }

  pub announce-unlisted : f.tasks ≤ i → announcing f i s ≡ Err Unlisted
  unfolding announcing
  announce-unlisted l = let e : ltb i f.tasks ≡ false = grind (arith, nat_tests) in simp e

  pub announce-early : i < f.tasks → s.age i < f.period i → announcing f i s ≡ Err TooEarly
  unfolding announcing
  announce-early l m = let e : ltb i f.tasks ≡ true = grind (arith, nat_tests) in let a : ltb (s.age i) (f.period i) ≡ true = grind (arith, nat_tests) in simp (e, a)

  pub announce-taken : i < f.tasks → f.period i ≤ s.age i → announcing f i s ≡ Ok (taken f i s)
  unfolding announcing
  announce-taken l m = let e : ltb i f.tasks ≡ true = grind (arith, nat_tests) in let a : ltb (s.age i) (f.period i) ≡ false = grind (arith, nat_tests) in simp (e, a)

  pub finish-unlisted : f.tasks ≤ i → finishing f i s ≡ Err Unlisted
  unfolding finishing
  finish-unlisted l = let e : ltb i f.tasks ≡ false = grind (arith, nat_tests) in simp e

  pub finish-not-running : i < f.tasks → eqb s.ran i ≡ false → finishing f i s ≡ Err NotRunning
  unfolding finishing
  finish-not-running l a = let e : ltb i f.tasks ≡ true = grind (arith, nat_tests) in simp (e, a)

  pub finish-closed : i < f.tasks → eqb s.ran i ≡ true → finishing f i s ≡ Ok (closed f i s)
  unfolding finishing
  finish-closed l a = let e : ltb i f.tasks ≡ true = grind (arith, nat_tests) in simp (e, a)
