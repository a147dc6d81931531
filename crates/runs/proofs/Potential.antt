-- The potential of a state: what the jobs that are there may still ask of the core if no further batch comes.
use Rattle.std.proofs.Common.{◌≡◌, ℕ, suc, ◌+◌, ◌-◌, ◌<◌, ◌≤◌, Bool, true, false, cond, not, ◌&&◌, ◌||◌, eqb, ltb, leb, ◌⊎◌, ap, inl, inr, arith}
use Rattle.std.proofs.lemmas.Bool.Decides.{nat_tests, leb_tells}
use Rattle.sets.specs.Below.{some_below}
use Rattle.sets.proofs.Below.{bool_tells, some-true, some-false, some-ext}
use Rattle.resource.specs.Seen.{Seen}
use Rattle.analysis.specs.Sums.{sum_below, most_below}
use Rattle.analysis.specs.Floor.{Floor}
use Rattle.analysis.specs.Charges.{guarded, guard_cost, scrub_cost, resume_below, resume_cost, interference, dearest, hold_cost, may_block, blocking}
use Rattle.runs.specs.State.{State, pending, tainted}
use Rattle.runs.specs.Run.{Proper}
use Rattle.runs.proofs.Sums.{and_left, sum_mono, sum-part, most-at, most-le}
use Rattle.runs.proofs.Shape.{Shape, needs, not-pending, is-pending}
use Rattle.runs.proofs.Taint.{tainted-guarded}

-- the scrub calls that way w may still need before task k may run
unfoldable pub dirt_on : Floor → State → Seen → ℕ → ℕ → ℕ
dirt_on f s x k w = cond (tainted f s k w) (cond (eqb w s.under) (x.left w) (f.cost w)) 0

-- the same of all ways
unfoldable pub dirt : Floor → State → Seen → ℕ → ℕ
dirt f s x k = sum_below f.ways (dirt_on f s x k)

-- the scrub calls that the way under scrub may still need, if there is one
unfoldable pub begun : Floor → State → Seen → ℕ
begun f s x = cond (ltb s.under f.ways) (x.left s.under) 0

-- a task of a higher priority than k has a job
unfoldable pub outranked : State → ℕ → Bool
outranked s k = some_below k (pending s)

-- what the job of task k may still scrub: the holder no more than what is dirty for it, unless it is about to be preempted,
-- when it may end the scrub that it has begun and then has to begin anew; every other task what its ways cost
unfoldable pub scrub_due : Floor → State → Seen → ℕ → ℕ
scrub_due f s x k =
    cond (eqb k s.holder) (cond (f.whole k || not (outranked s k)) (dirt f s x k) (scrub_cost f k + begun f s x)) (scrub_cost f k)

-- what the job of task k, if it has one, may still ask of the core
unfoldable pub owes : Floor → State → Seen → ℕ → ℕ
owes f s x k = cond (pending s k) (s.left k + scrub_due f s x k) 0

-- how long the holder, if its number is b or more, may still keep the core against everybody
unfoldable pub held_up : Floor → State → Seen → ℕ → ℕ
held_up f s x b =
    cond (leb b s.holder && ltb s.holder f.tasks)
    (cond (f.whole s.holder) (s.left s.holder + dirt f s x s.holder) (begun f s x)) 0

-- what stands before a task: the jobs of the tasks below m, and a holder from b on that keeps the core
unfoldable pub backlog : Floor → State → Seen → ℕ → ℕ → ℕ
backlog f s x m b = sum_below m (owes f s x) + held_up f s x b

pub outranked-same : (s t : State) (k : ℕ) → ((j : ℕ) → j < k → t.left j ≡ s.left j) → outranked t k ≡ outranked s k
unfolding outranked pending
outranked-same s t k h = some-ext k (pending t) (pending s) (λ j l. ap (λ v. ltb 0 v) (h j l))

pub outranked-none : (s : State) (k : ℕ) → ((j : ℕ) → j < k → s.left j ≡ 0) → outranked s k ≡ false
unfolding outranked
outranked-none s k h = some-false k (pending s) (λ j l. not-pending s j (h j l))

pub outranked-some : (s : State) (k j : ℕ) → j < k → 0 < s.left j → outranked s k ≡ true
unfolding outranked
outranked-some s k j l h = some-true k (pending s) j l (is-pending s j h)

-- each case of the definitions
module _ (f : Floor) (s : State) (x : Seen) (k : ℕ) where
  pub due-off : (k ≡ s.holder → ⊥) → scrub_due f s x k ≡ scrub_cost f k
  unfolding scrub_due
  due-off h = grind (arith, nat_tests)

  pub due-whole : k ≡ s.holder → f.whole k ≡ true → scrub_due f s x k ≡ dirt f s x k
  unfolding scrub_due
  due-whole e h = grind (arith, nat_tests)

  pub due-top : k ≡ s.holder → outranked s k ≡ false → scrub_due f s x k ≡ dirt f s x k
  unfolding scrub_due
  due-top e h = grind (arith, nat_tests)

  pub due-under : k ≡ s.holder → f.whole k ≡ false → outranked s k ≡ true → scrub_due f s x k ≡ scrub_cost f k + begun f s x
  unfolding scrub_due
  due-under e w h = grind (arith, nat_tests)

  pub owes-none : s.left k ≡ 0 → owes f s x k ≡ 0
  unfolding owes pending
  owes-none h = grind (arith, nat_tests)

  pub owes-some : 0 < s.left k → owes f s x k ≡ s.left k + scrub_due f s x k
  unfolding owes pending
  owes-some h = grind (arith, nat_tests)

module _ (f : Floor) (s : State) (x : Seen) (b : ℕ) where
  pub held-off : (s.holder < b) ⊎ (f.tasks ≤ s.holder) → held_up f s x b ≡ 0
  unfolding held_up
  held-off h = grind (arith, nat_tests)

  pub held_whole : (k : ℕ) → k ≡ s.holder → b ≤ k → k < f.tasks → f.whole k ≡ true → held_up f s x b ≡ s.left k + dirt f s x k
  unfolding held_up
  held_whole k e l h w = rw e (grind (arith, nat_tests, rw e at w))

  pub held-split : (k : ℕ) → k ≡ s.holder → b ≤ k → k < f.tasks → f.whole k ≡ false → held_up f s x b ≡ begun f s x
  unfolding held_up
  held-split k e l h w = grind (arith, nat_tests, rw e at w)

pub held-mono : (f : Floor) (s : State) (x : Seen) (b c : ℕ) → b ≤ c → held_up f s x c ≤ held_up f s x b
unfolding held_up
held-mono f s x b c l = elim (leb_tells c s.holder) [
  | inr e ↦ grind arith
  | inl e ↦ let q : leb b s.holder ≡ true = grind (arith, nat_tests) in grind arith
]

pub begun-none : (f : Floor) (s : State) (x : Seen) → f.ways ≤ s.under → begun f s x ≡ 0
unfolding begun
begun-none f s x h = grind (arith, nat_tests)

-- what is dirty for a task costs no more than its guarded ways, and the way under scrub is dirty for the holder
module _ (f : Floor) (pr : Proper f) (s : State) (x : Seen) (sh : Shape f s x) where
  pub dirt-le : (k : ℕ) → k < f.tasks → dirt f s x k ≤ scrub_cost f k
  unfolding dirt dirt_on scrub_cost guard_cost tainted
  dirt-le k b = sum_mono f.ways (dirt_on f s x k) (guard_cost f k) (λ w l.
      elim (bool_tells (tainted f s k w)) [
        | inl e ↦ grind (arith, tainted-guarded f pr s x sh k w l e, needs f s x sh k w b (and_left (f.uses k w) _ e))
        | inr e ↦ grind arith
      ])

  pub begun-le : s.holder < f.tasks → begun f s x ≤ dirt f s x s.holder
  unfolding begun dirt dirt_on
  begun-le b = elim (leb_tells (suc s.under) f.ways) [
    | inr e ↦ grind arith
    | inl e ↦
        let one : dirt_on f s x s.holder s.under ≤ sum_below f.ways (dirt_on f s x s.holder) = sum-part f.ways (dirt_on f s x s.holder) s.under e.1 in
        let is : dirt_on f s x s.holder s.under ≡ x.left s.under = grind (arith, nat_tests, (sh.scrubs e.1).1) in
        grind arith
  ]

-- each case of the charges
pub hold-whole : (f : Floor) (l : ℕ) → f.whole l ≡ true → hold_cost f l ≡ scrub_cost f l + f.budget l - 1
unfolding hold_cost
hold-whole f l w = grind arith

pub hold-split : (f : Floor) (l : ℕ) → f.whole l ≡ false → hold_cost f l ≡ dearest f l - 1
unfolding hold_cost
hold-split f l w = grind arith

pub dearest-at : (f : Floor) (l w : ℕ) → w < f.ways → guarded f l w ≡ true → f.cost w ≤ dearest f l
unfolding dearest guard_cost
dearest-at f l w b g =
    let m : guard_cost f l w ≤ most_below f.ways (guard_cost f l) = most-at f.ways (guard_cost f l) w b in
    let e : guard_cost f l w ≡ f.cost w = grind arith in
    omega arith

pub blocking-at : (f : Floor) (i l : ℕ) → l < f.tasks → (i < l) ⊎ ((i ≡ l) × (0 < i)) → hold_cost f l ≤ blocking f i
unfolding blocking
blocking-at f i l b h =
    let g = λ (l : ℕ). cond (may_block i l) (hold_cost f l) 0 in
    let m : g l ≤ most_below f.tasks g = most-at f.tasks g l b in
    let e : g l ≡ hold_cost f l = elim h [ inl q ↦ grind (arith, nat_tests) | inr q ↦ grind (arith, nat_tests) ] in
    omega arith

pub resume-at : (f : Floor) (j m k : ℕ) → k < m → j < k → f.whole k ≡ false → scrub_cost f k ≤ resume_below f j m
unfolding resume_below
resume-at f j m k l h w =
    let g = λ (k : ℕ). cond (ltb j k && not (f.whole k)) (scrub_cost f k) 0 in
    let m : g k ≤ most_below m g = most-at m g k l in
    let e : g k ≡ scrub_cost f k = grind (arith, nat_tests) in
    omega arith

resume-mono : (f : Floor) (j m n : ℕ) → m ≤ n → resume_below f j m ≤ resume_below f j n
unfolding resume_below
resume-mono f j m n l =
    let g = λ (k : ℕ). cond (ltb j k && not (f.whole k)) (scrub_cost f k) 0 in
    most-le m g (most_below n g) (λ k h. most-at n g k (omega arith))

-- what a batch of j brings before a task i is within its interference
pub interference-at : (f : Floor) (j i m : ℕ) → m ≤ suc i → f.budget j + scrub_cost f j + resume_below f j m ≤ interference f j i
unfolding interference resume_cost
interference-at f j i m l = omega (arith, resume-mono f j m (suc i) l)
