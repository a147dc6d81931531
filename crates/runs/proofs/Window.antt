-- The window of a task: since some moment the core has worked for what stands before it, and no longer than the floor's charges allow.
use Rattle.std.proofs.Common.{◌≡◌, ℕ, suc, ◌+◌, ◌-◌, ◌*◌, ◌/◌, ◌<◌, ◌≤◌, true, false, cond, ◌⊎◌, sym, refl, ap, ◌∙◌, inl, inr, mul-le-mul_right, le-div_iff_mul-le, arith}
use native.Mathlib.Nat.{add-div_right}
use Rattle.std.proofs.lemmas.Bool.Decides.{eqb_tells, leb_tells}
use Rattle.resource.specs.Seen.{Seen}
use Rattle.analysis.specs.Sums.{sum_below}
use Rattle.analysis.specs.Floor.{Floor}
use Rattle.analysis.specs.Charges.{scrub_cost, interference, blocking}
use Rattle.analysis.specs.Bounds.{ceiling, split_demand, whole_demand, IsBoundOf, Accepted}
use Rattle.runs.specs.State.{State}
use Rattle.runs.specs.Run.{Proper}
use Rattle.runs.proofs.Sums.{spike, spike-here, spike-off, sum_mono, sum_same, sum-count}
use Rattle.runs.proofs.Shape.{Shape}
use Rattle.runs.proofs.Effects.{Taken}
use Rattle.runs.proofs.Potential.{backlog, held-mono, interference-at}
use Rattle.runs.proofs.Arrivals.{backlog-taken, backlog-above}

-- What is used of an accepted floor. The limit of a task is the last number of ticks that its window may have: for a split task one less than
-- its bound, for a whole one its least start; so one inequality serves both kinds. That the bounds are least is not used.
pub record Limits (f : Floor) (bound : ℕ → ℕ) : Type 0 where
  pub limit : ℕ → ℕ
  pub whole_meets : (i : ℕ) → i < f.tasks → f.whole i ≡ true → whole_demand f i (limit i) ≤ limit i
  pub split-meets : (i : ℕ) → i < f.tasks → f.whole i ≡ false → whole_demand f i (limit i) + (f.budget i + scrub_cost f i) ≤ limit i + 1
  pub whole_is : (i : ℕ) → i < f.tasks → f.whole i ≡ true → bound i ≡ limit i + scrub_cost f i + f.budget i
  pub split-is : (i : ℕ) → i < f.tasks → f.whole i ≡ false → bound i ≡ limit i + 1
  pub met : (i : ℕ) → i < f.tasks → bound i ≤ f.deadline i

pub periods : (f : Floor) → Proper f → (i : ℕ) → i < f.tasks → 1 ≤ f.period i
periods f pr i b = omega (arith, pr.deadlines i b, pr.periods i b)

ceiling-is : (r p : ℕ) → 1 ≤ r → 1 ≤ p → ceiling r p ≡ (r - 1) / p + 1
ceiling-is r p a b =
    let e : r + p - 1 ≡ (r - 1) + p = omega arith in
    ap (λ v. v / p) e ∙ add-div_right (r - 1) b

module _ (f : Floor) (pr : Proper f) (bound : ℕ → ℕ) (acc : Accepted f bound) where
  limit-of : ℕ → ℕ
  limit-of i = cond (f.whole i) (bound i - (scrub_cost f i + f.budget i)) (bound i - 1)

  whole-bound : (i : ℕ) → i < f.tasks → f.whole i ≡ true → IsBoundOf f i true (bound i)
  whole-bound i b w = rw w at (acc i b).bound

  split-bound : (i : ℕ) → i < f.tasks → f.whole i ≡ false → IsBoundOf f i false (bound i)
  split-bound i b w = rw w at (acc i b).bound

  limit-whole : (i : ℕ) (b : i < f.tasks) (w : f.whole i ≡ true) → limit-of i ≡ (whole-bound i b w).0
  unfolding limit-of
  limit-whole i b w =
      let q = (whole-bound i b w).2 in
      let e : limit-of i ≡ bound i - (scrub_cost f i + f.budget i) = grind arith in
      omega (arith, q, e)

  limit-split : (i : ℕ) (b : i < f.tasks) (w : f.whole i ≡ false) → limit-of i ≡ bound i - 1
  unfolding limit-of
  limit-split i b w = grind arith

  pub limits : Limits f bound
  limits = record {
    limit = limit-of;
    whole_meets = λ i b w. rw (limit-whole i b w) (whole-bound i b w).1.meets;
    split-meets = split-meets;
    whole_is = λ i b w. omega (arith, (whole-bound i b w).2, limit-whole i b w);
    split-is = λ i b w. omega (arith, limit-split i b w, (split-bound i b w).from);
    met = λ i b. (acc i b).met;
  }
    where
      split-meets : (i : ℕ) → i < f.tasks → f.whole i ≡ false → whole_demand f i (limit-of i) + (f.budget i + scrub_cost f i) ≤ limit-of i + 1
      split-meets i b w = unfold whole_demand split_demand in
          let q = split-bound i b w in
          let same = sum_same i (λ j. ceiling (bound i) (f.period j) * interference f j i) (λ j. (limit-of i / f.period j + 1) * interference f j i)
          (λ j l. ap (λ v. v * interference f j i)
          (ceiling-is (bound i) (f.period j) q.from (periods f pr j (omega arith)) ∙ ap (λ v. v / f.period j + 1) (sym (limit-split i b w)))) in
          omega (arith, q.meets, q.from, same, limit-split i b w)

-- A window of task i. In its ticks so far the core has always worked for the backlog of m and b; each task j before i has had a number of batches
-- taken in it, a period apart; the ticks and what is still to do are within what blocks i at first, e, and the interference of those batches.
-- The ticks are within a limit, and at least a.
pub record Window (f : Floor) (s : State) (x : Seen) (i m b e limit a : ℕ) : Type 0 where
  pub ticks : ℕ
  pub batches : ℕ → ℕ
  pub within : ticks + backlog f s x m b ≤ blocking f i + e + sum_below i (λ j. batches j * interference f j i)
  pub spaced : (j : ℕ) → j < i → (batches j ≡ 0) ⊎ ((q : ℕ) × (batches j ≡ q + 1) × (q * f.period j + s.age j ≤ ticks))
  pub short : ticks ≤ limit
  pub old : a ≤ ticks

module _ (f : Floor) (pr : Proper f) (s : State) (x : Seen) (i m b e limit a : ℕ) (w : Window f s x i m b e limit a) where
  -- as many batches as fit
  batches-le : (j : ℕ) → j < i → i < f.tasks → w.batches j ≤ limit / f.period j + 1
  batches-le j l n = elim (w.spaced j l) [
    | inl z ↦ omega (arith, z)
    | inr q ↦
        let p : q.0 * f.period j ≤ limit = omega (arith, q.2, w.short) in
        let g : q.0 ≤ limit / f.period j = (le-div_iff_mul-le {k = f.period j} (periods f pr j (omega arith))).1 p in
        omega (arith, q.1, g)
  ]

  pub charged : i < f.tasks → blocking f i + sum_below i (λ j. w.batches j * interference f j i) ≤ whole_demand f i limit
  unfolding whole_demand
  charged n = omega (
    arith,
    sum_mono i (λ j. w.batches j * interference f j i) (λ j. (limit / f.period j + 1) * interference f j i)
        (λ j l. mul-le-mul_right (interference f j i) (batches-le j l n)),
  )

  -- a batch taken of a task without a job; of i itself only where the backlog does not count i
  pub window-taken : Shape f s x → (j : ℕ) (t : State) (y : Seen) → Taken f s x j t y → s.left j ≡ 0 → i ≤ m → m ≤ suc i → m ≤ f.tasks → (j < m → j < i)
      → Window f t y i m b e limit a
  window-taken sh j t y d free low high n counted = elim (leb_tells (suc j) i) [
    | inl l ↦ record {
      ticks = w.ticks;
      batches = λ k. w.batches k + spike j 1 k;
      within = omega (
        arith,
        w.within,
        backlog-taken f pr s x sh t y j d free m b n (omega (arith, l.1)),
        interference-at f j i m high,
        sum-count i j w.batches (λ k. interference f k i) l.1,
      );
      spaced = λ k h. elim (eqb_tells k j) [
        | inl q ↦ inr (w.batches k, omega (arith, ap (λ v. spike j 1 v) q.1, spike-here j 1), due k q.1 h)
        | inr q ↦ elim (w.spaced k h) [
          | inl z ↦ inl (omega (arith, z, spike-off j 1 k q.1))
          | inr z ↦ inr (z.0, omega (arith, z.1, spike-off j 1 k q.1), omega (arith, z.2, d.age-other k (omega arith) q.1))
        ]
      ];
      short = w.short;
      old = w.old;
    }
    | inr l ↦ record {
      ticks = w.ticks;
      batches = w.batches;
      within = omega (
        arith,
        w.within,
        backlog-above f pr s x sh t y j d free m b n (elim (leb_tells m j) [ inl v ↦ v.1 | inr v ↦ absurd (omega (arith, counted v.1, l.1)) ]),
      );
      spaced = λ k h. elim (w.spaced k h) [
        | inl z ↦ inl z
        | inr z ↦ inr (z.0, z.1, omega (arith, z.2, d.age-other k (omega arith) (omega (arith, l.1))))
      ];
      short = w.short;
      old = w.old;
    }
  ]
    where
      due : (k : ℕ) → k ≡ j → k < i → w.batches k * f.period k + t.age k ≤ w.ticks
      due k q h =
          let now : t.age k ≡ 0 = ap t.age q ∙ d.age-one in
          let was : f.period k ≤ s.age k = omega (arith, ap s.age q, d.due, ap f.period q) in
          elim (w.spaced k h) [
            | inl z ↦ omega (arith, now, ap (λ v. v * f.period k) z)
            | inr z ↦ omega (arith, now, was, z.2, ap (λ v. v * f.period k) z.1)
          ]

  -- a call that adds nothing to the backlog and no age
  pub window-kept : (t : State) (y : Seen) (b' a' : ℕ) → backlog f t y m b ≤ backlog f s x m b → ((k : ℕ) → k < i → t.age k ≤ s.age k) → b ≤ b' → a' ≤ a
      → Window f t y i m b' e limit a'
  unfolding backlog
  window-kept t y b' a' less ages l o = record {
    ticks = w.ticks;
    batches = w.batches;
    within = omega (arith, w.within, less, held-mono f t y b b' l);
    spaced = λ k h. elim (w.spaced k h) [
      | inl z ↦ inl z
      | inr z ↦ inr (z.0, z.1, omega (arith, z.2, ages k h))
    ];
    short = w.short;
    old = omega (arith, w.old);
  }

  -- the same window with less asked
  pub window-less : (b' a' : ℕ) → b ≤ b' → a' ≤ a → Window f s x i m b' e limit a'
  window-less b' a' l o = window-kept s x b' a' (omega arith) (λ k h. omega arith) l o

  -- a tick that works for the backlog
  pub window-tick : (t : State) (y : Seen) (a' : ℕ) → ((k : ℕ) → k < i → t.age k ≤ s.age k + 1) → backlog f t y m b + 1 ≤ backlog f s x m b → a' ≤ a + 1
      → w.ticks + 1 ≤ limit → Window f t y i m b e limit a'
  window-tick t y a' ages falls o short = record {
    ticks = w.ticks + 1;
    batches = w.batches;
    within = omega (arith, w.within);
    spaced = λ k h. elim (w.spaced k h) [
      | inl z ↦ inl z
      | inr z ↦ inr (z.0, z.1, omega (arith, z.2, ages k h))
    ];
    short = short;
    old = omega (arith, w.old);
  }

-- where the backlog is within the blocking, a window may begin
pub window-new : (f : Floor) (t : State) (y : Seen) (i b limit : ℕ) → backlog f t y i b ≤ blocking f i → Window f t y i i b 0 limit 0
window-new f t y i b limit h = record {
  ticks = 0;
  batches = λ _. 0;
  within = omega arith;
  spaced = λ k l. inl refl;
  short = omega arith;
  old = omega arith;
}
