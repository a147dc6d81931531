-- The law of every run.
use Rattle.std.proofs.Common.{◌≡◌, ℕ, ◌<◌, ◌≤◌, Bool, true, false, ◌&&◌, ltb, List, [], ◌∷◌, ◌++◌, Result, sym, refl, ap, ◌∙◌, inl, inr, arith}
use Rattle.std.proofs.lemmas.Bool.Decides.{nat_tests, eqb_tells}
use Rattle.sets.specs.Below.{some_below}
use Rattle.sets.proofs.Below.{bool_tells, none-at}
use Rattle.resource.specs.Seen.{Seen}
use Rattle.analysis.specs.Floor.{Floor}
use Rattle.analysis.specs.Bounds.{Accepted}
use Rattle.runs.specs.declared.fault.CallFault.{CallFault}
use Rattle.runs.specs.State.{State, tainted, scrub_way}
use Rattle.runs.specs.Calls.{Announced, Runs}
use Rattle.runs.specs.History.{Event, announce, finish, tick, refused, takes, finishes, runs, is_tick, count, some, since_batch, had_batch}
use Rattle.runs.specs.Law.{early, OnTime, Owed, Unleaked, RunsWell, Promised, Kept}
use Rattle.runs.specs.Run.{Proper, Step, Run, start, more}
use Rattle.runs.proofs.Sums.{zero_or}
use Rattle.runs.proofs.Shape.{Shape, target, chosen-left, target_none}
use Rattle.runs.proofs.Effects.{takes as takes-it, refuses, of-announced}
use Rattle.runs.proofs.Window.{Limits, limits}
use Rattle.runs.proofs.Schedule.{in-time}
use Rattle.runs.proofs.Standing.{standing}
use Rattle.runs.proofs.Books.{books}
use Rattle.runs.proofs.Account.{paid_for}

-- a history that is cut at a batch of i has had one
had-cut : (i : ℕ) (between : List Event) (batch : Event) (before : List Event) → takes i batch ≡ true → had_batch i (between ++ batch ∷ before) ≡ true
had-cut i [] batch before e = rw e refl
had-cut i (c ∷ between) batch before e = let q = had-cut i between batch before e in grind arith

-- a tick neither takes a batch nor finishes a task
tick-only : (i : ℕ) (e : Event) → is_tick e ≡ true → (takes i e ≡ false) × (finishes i e ≡ false)
tick-only i (announce j r) q = absurd (grind arith)
tick-only i (finish j r) q = absurd (grind arith)
tick-only i (tick z a) q = (refl, refl)

module _ (f : Floor) (pr : Proper f) (bound : ℕ → ℕ) (lim : Limits f bound) where
  -- refused exactly when too early
  refused-if-early : (h : List Event) (s : State) (x : Seen) → Run f h s x → (i : ℕ) (r : Result (Unit {0}) CallFault) (t : State) (y : Seen)
      → Announced f s x i r t y → i < f.tasks → refused r ≡ early f i h
  refused-if-early h s x run i r t y d b =
      let k = books f pr bound lim h s x run i b in
      elim (bool_tells (had_batch i h)) [
        | inr none ↦ elim (of-announced f s x i r t y d) [
          | takes-it e a ↦ ap refused e ∙ sym (rw none refl)
          | refuses e c a ↦ absurd (omega (arith, c b, (k.never none).0))
        ]
        | inl had ↦ elim (of-announced f s x i r t y d) [
          | takes-it e a ↦
              let long : ltb (count is_tick (since_batch i h)) (f.period i) ≡ false = grind (arith, nat_tests, k.age had, a.due) in
              ap refused e ∙ sym (rw had (rw long refl))
          | refuses e c a ↦
              let short : ltb (count is_tick (since_batch i h)) (f.period i) ≡ true = grind (arith, nat_tests, k.age had, c b) in
              e ∙ sym (rw had (rw short refl))
        ]
      ]

  -- an event that takes a batch of a task comes a period after the batch before
  takes-late : (h : List Event) (s : State) (x : Seen) → Run f h s x → (e : Event) (t : State) (y : Seen) → Step f s x e t y → (i : ℕ) → i < f.tasks
      → takes i e ≡ true → had_batch i h ≡ true → f.period i ≤ count is_tick (since_batch i h)
  takes-late h s x run (announce j r) t y d i b e had =
      let k = books f pr bound lim h s x run i b in
      elim (of-announced f s x j r t y d) [
        | takes-it c a ↦ elim (eqb_tells i j) [
          | inl q ↦ omega (arith, k.age had, a.due, ap s.age q.1, ap f.period q.1)
          | inr q ↦ absurd (grind arith)
        ]
        | refuses c q a ↦ absurd (grind arith)
      ]
  takes-late h s x run (finish j r) t y d i b e had = absurd (grind arith)
  takes-late h s x run (tick z a) t y d i b e had = absurd (grind arith)

  -- so within a period of a batch there is no other of the same task
  alone : (between : List Event) (batch : Event) (before : List Event) (s : State) (x : Seen) → Run f (between ++ batch ∷ before) s x
      → (i : ℕ) → i < f.tasks → takes i batch ≡ true → count is_tick between < f.period i → since_batch i (between ++ batch ∷ before) ≡ between
  alone [] batch before s x run i b e l = rw e refl
  alone (c ∷ between) batch before t y (more {s = s} {x = x} run d) i b e l =
      let less : count is_tick between < f.period i = omega arith in
      let q = alone between batch before s x run i b e less in
      let had = had-cut i between batch before e in
      elim (bool_tells (takes i c)) [
        | inl o ↦ absurd (omega (arith, takes-late (between ++ batch ∷ before) s x run c t y d i b o had, ap (count is_tick) q))
        | inr o ↦ rw o (ap (λ v. c ∷ v) q)
      ]

  -- on time
  on-time : (h : List Event) (s : State) (x : Seen) → Run f h s x → (e : Event) (t : State) (y : Seen) → Step f s x e t y → OnTime f e h
  on-time h s x run e t y d i between batch before b is-tick is-batch cut deadline =
      let plain = tick-only i e is-tick in
      let g = standing f pr bound lim (e ∷ h) t y (more run d) in
      let k = books f pr bound lim (e ∷ h) t y (more run d) i b in
      let since : since_batch i (e ∷ h) ≡ e ∷ between =
      rw plain.0 (ap (λ v. e ∷ v) (ap (since_batch i) cut ∙ alone between batch before s x (rw cut at run) i b is-batch (omega (arith, pr.periods i b)))) in
      let was : had_batch i h ≡ true = ap (had_batch i) cut ∙ had-cut i between batch before is-batch in
      let had : had_batch i (e ∷ h) ≡ true = grind arith in
      let ticks : count is_tick (since_batch i (e ∷ h)) ≡ f.deadline i = ap (count is_tick) since ∙ rw is-tick (omega (arith, deadline)) in
      let none : t.left i ≡ 0 = elim (zero_or (t.left i)) [
        | inl z ↦ z
        | inr z ↦ absurd (omega (arith, in-time f pr bound lim t y g.shape g.schedule i b z, k.age had, ticks, lim.met i b, pr.periods i b))
      ] in
      elim (bool_tells (some (finishes i) between)) [
        | inl q ↦ inl q
        | inr q ↦
            let open-yet : some (finishes i) (since_batch i (e ∷ h)) ≡ false = ap (some (finishes i)) since ∙ rw plain.1 q in
            let all = k.work had open-yet in
            inr (omega (arith, all, none, ap (count (runs i)) since))
      ]

  -- a tick runs only what is owed
  owed : (h : List Event) (s : State) (x : Seen) → Run f h s x → (i : ℕ) (e : Bool) (t : State) (y : Seen) → Runs f s x i e t y → Owed f i h
  owed h s x run i e t y d =
      let b = d.listed in
      let k = books f pr bound lim h s x run i b in
      let z : 0 < s.left i = rw d.task (chosen-left f s x (standing f pr bound lim h s x run).shape (omega (arith, d.task))) in
      let had : had_batch i h ≡ true = elim (bool_tells (had_batch i h)) [ inl q ↦ q | inr q ↦ absurd (omega (arith, (k.never q).1)) ] in
      let open-yet : some (finishes i) (since_batch i h) ≡ false = elim (bool_tells (some (finishes i) (since_batch i h))) [
        | inl q ↦ absurd (omega (arith, k.over had q))
        | inr q ↦ q
      ] in
      record { listed = b; batch = had; unfinished = open-yet; unspent = omega (arith, k.work had open-yet) }

  -- and only on ways without a trace that must not be there
  unleaked : (s : State) (x : Seen) → Shape f s x → (i : ℕ) (e : Bool) (t : State) (y : Seen) → Runs f s x i e t y → Unleaked f i x
  unfolding tainted
  unleaked s x sh i e t y d w k uses leak =
      let v = pr.ways i w uses in
      let b = (pr.listed k i leak).0 in
      let clean : f.ways ≤ target f s = rw (ap (scrub_way f s) (sym d.task)) d.clean in
      let free : tainted f s i w ≡ false = rw d.task ((target_none f s x sh clean).1 w v) in
      let none : some_below f.tasks (λ j. s.recorded w j && f.noleak j i) ≡ false = grind arith in
      let here : (s.recorded w k && f.noleak k i) ≡ false = none-at f.tasks (λ j. s.recorded w j && f.noleak j i) none k b in
      elim (bool_tells (x.traces w k)) [
        | inl q ↦ absurd (grind (arith, sh.traced w k v b q))
        | inr q ↦ q
      ]

  runs-well : (h : List Event) (s : State) (x : Seen) → Run f h s x → (e : Event) (t : State) (y : Seen) → Step f s x e t y → RunsWell f e h
  runs-well h s x run e t y d i ended z is =
      let step : (z ≡ x) × Runs f s x i ended t y = rw is at d in
      (owed h s x run i ended t y step.1, rw step.0 (unleaked s x (standing f pr bound lim h s x run).shape i ended t y step.1))

  promises : (h : List Event) (s : State) (x : Seen) → Run f h s x → (e : Event) (t : State) (y : Seen) → Step f s x e t y → Promised f e h
  promises h s x run e t y d = record {
    refused = λ i r is b. refused-if-early h s x run i r t y (rw is at d) b;
    on_time = on-time h s x run e t y d;
    runs_well = runs-well h s x run e t y d;
    paid_for = paid_for f pr bound lim (e ∷ h) t y (more run d);
  }

-- one call more: what is promised of it
pub promised : (f : Floor) (bound : ℕ → ℕ) → Proper f → Accepted f bound → {h : List Event} {s : State} {x : Seen} (e : Event) (t : State) (y : Seen)
    → Run f h s x → Step f s x e t y → Promised f e h
promised f bound pr acc {h = h} {s = s} {x = x} e t y run d = promises f pr bound (limits f pr bound acc) h s x run e t y d

-- the law of every run
pub kept : (f : Floor) (bound : ℕ → ℕ) → Proper f → Accepted f bound → {h : List Event} {s : State} {x : Seen} → Run f h s x → Kept f h
kept f bound pr acc (start o) = tt
kept f bound pr acc (more {t = t} {y = y} {e = e} run d) = (promised f bound pr acc e t y run d, kept f bound pr acc run)

-- a run with one call more is a run, and the law is kept
pub kept_more : (f : Floor) (bound : ℕ → ℕ) → Proper f → Accepted f bound → {h : List Event} {s : State} {x : Seen} (e : Event) (t : State) (y : Seen)
    → Run f h s x → Step f s x e t y → Run f (e ∷ h) t y × Kept f (e ∷ h)
kept_more f bound pr acc e t y run d = (more run d, kept f bound pr acc (more run d))
