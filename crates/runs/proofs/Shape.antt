-- What holds of the state and the resource between any two calls, and which task the next tick goes to.
use Rattle.std.proofs.Common.{◌≡◌, ℕ, suc, ◌<◌, ◌≤◌, Bool, true, false, ltb, ◌⊎◌, refl, inl, inr, arith}
use Rattle.std.proofs.lemmas.Bool.Decides.{nat_tests, leb_tells}
use Rattle.sets.proofs.Below.{none-at}
use Rattle.resource.specs.Seen.{Seen, Sound}
use Rattle.analysis.specs.Floor.{Floor}
use Rattle.runs.specs.State.{State, pending, tainted, stays, chosen, scrub_way}
use Rattle.runs.proofs.Sums.{and_left, first-tells, first-before}

-- the plain invariant: no deadline is needed to keep it
pub record Shape (f : Floor) (s : State) (x : Seen) : Type 0 where
  -- no job has more left than its budget, and the holder has a job
  pub budget : (k : ℕ) → k < f.tasks → s.left k ≤ f.budget k
  pub holds : s.holder < f.tasks → 0 < s.left s.holder
  -- a way under scrub is one that must be scrubbed for the holder
  pub scrubs : s.under < f.ways → (s.holder < f.tasks) × (tainted f s s.holder s.under ≡ true)
  -- a task is recorded only on ways that it uses
  pub owners : (w k : ℕ) → w < f.ways → k < f.tasks → s.recorded w k ≡ true → f.uses k w ≡ true
  -- the task just run is the holder, and no way is then under scrub
  pub runs : s.ran < f.tasks → (s.ran ≡ s.holder) × (f.ways ≤ s.under)
  -- the resource is one, has the ways that the tasks use, at the floor's costs, and every trace on them is recorded
  pub sound : Sound x
  pub there : (i w : ℕ) → i < f.tasks → f.uses i w ≡ true → w < x.ways
  pub priced : (i w : ℕ) → i < f.tasks → f.uses i w ≡ true → x.cost w ≡ f.cost w
  pub traced : (w k : ℕ) → w < f.ways → k < f.tasks → x.traces w k ≡ true → s.recorded w k ≡ true

-- a way that a task uses needs from one scrub call to as many as the floor says
pub needs : (f : Floor) (s : State) (x : Seen) → Shape f s x → (k w : ℕ) → k < f.tasks → f.uses k w ≡ true → (1 ≤ x.left w) × (x.left w ≤ f.cost w)
needs f s x sh k w b u = (sh.sound.least w, omega (arith, sh.sound.most w (sh.there k w b u), sh.priced k w b u))

pub pending-no : (s : State) (k : ℕ) → pending s k ≡ false → s.left k ≡ 0
unfolding pending
pending-no s k h = grind (arith, nat_tests)

pub pending-yes : (s : State) (k : ℕ) → pending s k ≡ true → 0 < s.left k
unfolding pending
pending-yes s k h = grind (arith, nat_tests)

pub not-pending : (s : State) (k : ℕ) → s.left k ≡ 0 → pending s k ≡ false
unfolding pending
not-pending s k h = grind (arith, nat_tests)

pub is-pending : (s : State) (k : ℕ) → 0 < s.left k → pending s k ≡ true
unfolding pending
is-pending s k h = grind (arith, nat_tests)

-- the holder keeps the core: its task is whole, or it has begun a scrub
abbrev pub Unmoved : Floor → State → Type 0
Unmoved f s = (f.whole s.holder ≡ true) ⊎ (s.under < f.ways)

-- how the next tick's task comes about: the holder keeps the core; or the holder, if any, can be preempted and no way is under scrub,
-- and the task is the one of the highest priority that has a job, or there is none
pub data Choice (f : Floor) (s : State) : Type 0 where
  stayed : chosen f s ≡ s.holder → s.holder < f.tasks → Unmoved f s → Choice f s
  called : chosen f s < f.tasks → 0 < s.left (chosen f s) → ((k : ℕ) → k < chosen f s → s.left k ≡ 0) → f.ways ≤ s.under
      → (s.holder < f.tasks → f.whole s.holder ≡ false) → Choice f s
  nobody : chosen f s ≡ f.tasks → ((k : ℕ) → k < f.tasks → s.left k ≡ 0) → f.ways ≤ s.under → (s.holder < f.tasks → f.whole s.holder ≡ false) → Choice f s

-- the way that the next tick scrubs, if it scrubs
abbrev pub target : Floor → State → ℕ
target f s = scrub_way f s (chosen f s)

module _ (f : Floor) (s : State) (x : Seen) (sh : Shape f s x) where
  pub choice : Choice f s
  unfolding chosen stays
  choice = go (ltb s.holder f.tasks) (f.whole s.holder) (ltb s.under f.ways) refl refl refl
    where
      free : stays f s ≡ false → f.ways ≤ s.under → (s.holder < f.tasks → f.whole s.holder ≡ false) → Choice f s
      free e u w = elim (first-tells f.tasks (pending s)) [
        | inl q ↦ called (grind arith) (pending-yes s (chosen f s) (grind arith)) (λ k l. pending-no s k (first-before f.tasks (pending s) k (grind arith))) u w
        | inr q ↦ nobody (grind arith) (λ k l. pending-no s k (none-at f.tasks (pending s) q.0 k l)) u w
      ]

      go : (a b d : Bool) → ltb s.holder f.tasks ≡ a → f.whole s.holder ≡ b → ltb s.under f.ways ≡ d → Choice f s
      go true true d p q r = stayed (grind arith) (grind (arith, nat_tests)) (inl q)
      go true false true p q r = stayed (grind arith) (grind (arith, nat_tests)) (inr (grind (arith, nat_tests)))
      go true false false p q r = free (grind arith) (grind (arith, nat_tests)) (λ _. q)
      go false b d p q r = free (grind arith) (grind (arith, nat_tests, sh.scrubs)) (λ h. absurd (grind (arith, nat_tests)))

  -- the tick's task has a job
  pub chosen-left : chosen f s < f.tasks → 0 < s.left (chosen f s)
  chosen-left b = elim choice [
    | stayed e h r ↦ rw e (sh.holds h)
    | called a l q u w ↦ l
    | nobody e q u w ↦ absurd (omega arith)
  ]

  -- while a way is under scrub the holder stays
  pub under_stays : s.under < f.ways → chosen f s ≡ s.holder
  under_stays b = elim choice [ stayed e h r ↦ e | called a l q u w ↦ absurd (omega arith) | nobody e q u w ↦ absurd (omega arith) ]

  pub target-under : s.under < f.ways → target f s ≡ s.under
  unfolding scrub_way
  target-under b = grind (arith, nat_tests)

  -- what is scrubbed must be scrubbed for the task
  pub target-tainted : target f s < f.ways → tainted f s (chosen f s) (target f s) ≡ true
  unfolding scrub_way
  target-tainted b = elim (leb_tells (suc s.under) f.ways) [
    | inl e ↦ grind (arith, (sh.scrubs e.1).1, under_stays e.1)
    | inr e ↦ elim (first-tells f.ways (tainted f s (chosen f s))) [ inl q ↦ grind arith | inr q ↦ grind arith ]
  ]

  pub target-used : target f s < f.ways → f.uses (chosen f s) (target f s) ≡ true
  unfolding tainted
  target-used b = and_left _ _ (target-tainted b)

  -- where nothing is scrubbed, nothing must be
  pub target_none : f.ways ≤ target f s → (f.ways ≤ s.under) × ((w : ℕ) → w < f.ways → tainted f s (chosen f s) w ≡ false)
  unfolding scrub_way
  target_none b = elim (leb_tells (suc s.under) f.ways) [
    | inl e ↦ absurd (grind arith)
    | inr e ↦ elim (first-tells f.ways (tainted f s (chosen f s))) [
      | inl q ↦ absurd (grind arith)
      | inr q ↦ (omega (arith, e.1), λ w l. none-at f.ways (tainted f s (chosen f s)) q.0 w l)
    ]
  ]
