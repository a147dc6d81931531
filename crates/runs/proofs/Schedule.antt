-- The windows of all tasks, kept by every call, and the deadlines that they give.
use Rattle.std.proofs.Common.{◌≡◌, ℕ, suc, ◌+◌, ◌<◌, ◌≤◌, max, true, false, ◌⊎◌, sym, ap, ◌∙◌, inl, inr, arith}
use Rattle.std.proofs.lemmas.Bool.Decides.{eqb_tells, leb_tells}
use Rattle.sets.proofs.Below.{bool_tells, some_at, none-at}
use Rattle.resource.specs.Seen.{Seen}
use Rattle.analysis.specs.Floor.{Floor}
use Rattle.analysis.specs.Charges.{scrub_cost}
use Rattle.analysis.specs.Bounds.{whole_demand}
use Rattle.runs.specs.State.{State, fresh, pending, chosen}
use Rattle.runs.specs.Run.{Proper, Started}
use Rattle.runs.proofs.Sums.{zero_or, sum-none}
use Rattle.runs.proofs.Shape.{Shape, Unmoved, stayed, called, nobody, choice, chosen-left, pending-yes, pending-no}
use Rattle.runs.proofs.Effects.{Untouched, Taken, Closed, Idled}
use Rattle.runs.proofs.Potential.{dirt, outranked, owes, backlog, due-off, owes-none, owes-some, held-off, held-mono, blocking-at, dirt-le}
use Rattle.runs.proofs.Worked.{Worked, backlog-falls}
use Rattle.runs.proofs.Arrivals.{dirt-same, backlog-untouched, not-holder, was-holder, backlog-closed}
use Rattle.runs.proofs.Window.{Limits, Window, charged, window-taken, window-kept, window-less, window-tick, window-new}

-- what is known of a job of task i: of a split one, or of a whole one that waits, a window at least as old as the job;
-- of a whole one that holds the core, that what is left of it is within the bound
pub data Job (f : Floor) (bound : ℕ → ℕ) (lim : Limits f bound) (s : State) (x : Seen) (i : ℕ) : Type 0 where
  splits : f.whole i ≡ false → Window f s x i (suc i) (suc i) (f.budget i + scrub_cost f i) (lim.limit i) (s.age i) → Job f bound lim s x i
  waits : f.whole i ≡ true → (s.holder ≡ i → ⊥) → Window f s x i i (suc i) 0 (lim.limit i) (s.age i) → Job f bound lim s x i
  holds : f.whole i ≡ true → s.holder ≡ i → s.age i + s.left i + dirt f s x i ≤ lim.limit i + scrub_cost f i + f.budget i → Job f bound lim s x i

-- for every task: a window for a job that may be announced now, and what is known of the job that it has
pub record Schedule (f : Floor) (bound : ℕ → ℕ) (lim : Limits f bound) (s : State) (x : Seen) : Type 0 where
  pub open-for : (i : ℕ) → i < f.tasks → Window f s x i i (max i 1) 0 (lim.limit i) 0
  pub jobs : (i : ℕ) → i < f.tasks → 0 < s.left i → Job f bound lim s x i

-- with no job below m and nobody holding the core there is no backlog
backlog-none : (f : Floor) (t : State) (y : Seen) (m b : ℕ) → ((k : ℕ) → k < m → t.left k ≡ 0) → f.tasks ≤ t.holder → backlog f t y m b ≡ 0
unfolding backlog
backlog-none f t y m b z h = omega (arith, sum-none m (owes f t y) (λ k l. owes-none f t y k (z k l)), held-off f t y b (inr h))

module _ (f : Floor) (pr : Proper f) (bound : ℕ → ℕ) (lim : Limits f bound) (s : State) (x : Seen) (sh : Shape f s x) (g : Schedule f bound lim s x) where
  -- a job is in time
  pub in-time : (i : ℕ) → i < f.tasks → 0 < s.left i → s.age i < bound i
  in-time i b z = elim (g.jobs i b z) [
    | splits w j ↦ omega (arith, lim.split-is i b w, j.short, j.old)
    | waits w o j ↦ omega (arith, lim.whole_is i b w, j.short, j.old, sh.budget i b)
    | holds w o h ↦ omega (arith, lim.whole_is i b w, h)
  ]

  -- a task whose period is over has no job
  pub due-free : (i : ℕ) → i < f.tasks → f.period i ≤ s.age i → s.left i ≡ 0
  due-free i b e = elim (zero_or (s.left i)) [
    | inl z ↦ z
    | inr z ↦ absurd (omega (arith, in-time i b z, lim.met i b, pr.periods i b))
  ]

-- the demand at the limit is within the limit, for both kinds
meets : (f : Floor) (pr : Proper f) (bound : ℕ → ℕ) (lim : Limits f bound) (i : ℕ) → i < f.tasks → whole_demand f i (lim.limit i) ≤ lim.limit i
meets f pr bound lim i b = elim (bool_tells (f.whole i)) [
  | inl w ↦ lim.whole_meets i b w
  | inr w ↦ omega (arith, lim.split-meets i b w, pr.budgets i b)
]

-- a job just announced has the window that was open for it
module _ (f : Floor) (pr : Proper f) (bound : ℕ → ℕ) (lim : Limits f bound) (t : State) (y : Seen) (i : ℕ) (age : t.age i ≡ 0) (off : t.holder ≡ i → ⊥)
    (new : owes f t y i ≡ f.budget i + scrub_cost f i) (w : Window f t y i i (max i 1) 0 (lim.limit i) 0) where
  new_split : Window f t y i (suc i) (suc i) (f.budget i + scrub_cost f i) (lim.limit i) (t.age i)
  unfolding backlog
  new_split = record {
    ticks = w.ticks;
    batches = w.batches;
    within = omega (arith, w.within, held-mono f t y (max i 1) (suc i) (omega arith), new);
    spaced = w.spaced;
    short = w.short;
    old = omega (arith, age);
  }

  new-job : Job f bound lim t y i
  new-job = elim (bool_tells (f.whole i)) [
    | inr k ↦ splits k new_split
    | inl k ↦ waits k off (window-less f pr t y i i (max i 1) 0 (lim.limit i) 0 w (suc i) (t.age i) (omega arith) (omega (arith, age)))
  ]

pub schedule-start : (f : Floor) (bound : ℕ → ℕ) (lim : Limits f bound) (s : State) (x : Seen) → Started f s x → Schedule f bound lim s x
unfolding fresh
schedule-start f bound lim s x o = record {
  open-for = λ i b. window-new f s x i (max i 1) (lim.limit i)
      (omega (arith, backlog-none f s x i (max i 1) (λ k l. o.state.left k (omega arith)) (omega (arith, o.state.holder))));
  jobs = λ i b z. absurd (omega (arith, o.state.left i b));
}

module _ (f : Floor) (pr : Proper f) (bound : ℕ → ℕ) (lim : Limits f bound) (s : State) (x : Seen) (sh : Shape f s x) (g : Schedule f bound lim s x)
    (t : State) (y : Seen) where
  pub schedule-taken : (j : ℕ) → Taken f s x j t y → Schedule f bound lim t y
  schedule-taken j a = record { open-for = open-for; jobs = jobs }
    where
      free : s.left j ≡ 0
      free = due-free f pr bound lim s x sh g j a.listed a.due

      open-for : (i : ℕ) → i < f.tasks → Window f t y i i (max i 1) 0 (lim.limit i) 0
      open-for i b = window-taken f pr s x i i (max i 1) 0 (lim.limit i) 0 (g.open-for i b) sh j t y a free (omega arith) (omega arith) (omega arith) (λ l. l)

      off : (i : ℕ) → i ≡ j → t.holder ≡ i → ⊥
      off i e q = not-holder f pr s x sh t y j a free (sym e ∙ sym q ∙ a.alike.holder)

      jobs : (i : ℕ) → i < f.tasks → 0 < t.left i → Job f bound lim t y i
      jobs i b z = elim (eqb_tells i j) [
        | inl e ↦
            let le : t.left i ≡ f.budget i = ap t.left e.1 ∙ a.left_one ∙ ap f.budget (sym e.1) in
            new-job f pr bound lim t y i (ap t.age e.1 ∙ a.age-one) (off i e.1)
            (omega (arith, owes-some f t y i z, le, due-off f t y i (λ q. off i e.1 (sym q)))) (open-for i b)
        | inr e ↦
            let le = a.left_other i b e.1 in
            let ag = a.age-other i b e.1 in
            elim (g.jobs i b (omega (arith, le))) [
              | splits w k ↦ splits w (rw ag
                  (window-taken f pr s x i (suc i) (suc i) (f.budget i + scrub_cost f i) (lim.limit i) (s.age i) k sh j t y a free
                  (omega arith) (omega arith) (omega arith) (λ l. omega (arith, e.1))))
              | waits w o k ↦ waits w (λ q. o (sym a.alike.holder ∙ q)) (rw ag
                  (window-taken f pr s x i i (suc i) 0 (lim.limit i) (s.age i) k sh j t y a free (omega arith) (omega arith) (omega arith) (λ l. l)))
              | holds w o h ↦ holds w (a.alike.holder ∙ o) (omega (arith, h, le, ag, dirt-same f s x t y a.alike i))
            ]
      ]

  -- a call that leaves the ages and adds nothing to any backlog
  module _ (ages : (k : ℕ) → k < f.tasks → t.age k ≡ s.age k) (less : (m b : ℕ) → m ≤ f.tasks → backlog f t y m b ≤ backlog f s x m b) where
    open_kept : (i : ℕ) → i < f.tasks → Window f t y i i (max i 1) 0 (lim.limit i) 0
    open_kept i b = window-kept f pr s x i i (max i 1) 0 (lim.limit i) 0 (g.open-for i b) t y (max i 1) 0 (less i (max i 1) (omega arith))
        (λ k l. omega (arith, ages k (omega arith))) (omega arith) (omega arith)

    split-kept : (i : ℕ) → i < f.tasks → Window f s x i (suc i) (suc i) (f.budget i + scrub_cost f i) (lim.limit i) (s.age i)
        → Window f t y i (suc i) (suc i) (f.budget i + scrub_cost f i) (lim.limit i) (t.age i)
    split-kept i b k = window-kept f pr s x i (suc i) (suc i) (f.budget i + scrub_cost f i) (lim.limit i) (s.age i) k t y (suc i) (t.age i) (less (suc i) (suc i) b)
        (λ k l. omega (arith, ages k (omega arith))) (omega arith) (omega (arith, ages i b))

    wait-kept : (i : ℕ) → i < f.tasks → Window f s x i i (suc i) 0 (lim.limit i) (s.age i) → Window f t y i i (suc i) 0 (lim.limit i) (t.age i)
    wait-kept i b k = window-kept f pr s x i i (suc i) 0 (lim.limit i) (s.age i) k t y (suc i) (t.age i) (less i (suc i) (omega arith))
        (λ k l. omega (arith, ages k (omega arith))) (omega arith) (omega (arith, ages i b))

  pub schedule-untouched : Untouched f s x t y → Schedule f bound lim t y
  schedule-untouched u = record {
    open-for = open_kept u.age less;
    jobs = λ i b z. elim (g.jobs i b (omega (arith, u.left i b))) [
      | splits w k ↦ splits w (split-kept u.age less i b k)
      | waits w o k ↦ waits w (λ q. o (sym u.alike.holder ∙ q)) (wait-kept u.age less i b k)
      | holds w o h ↦ holds w (u.alike.holder ∙ o) (omega (arith, h, u.left i b, u.age i b, dirt-same f s x t y u.alike i))
    ];
  }
    where
      less : (m b : ℕ) → m ≤ f.tasks → backlog f t y m b ≤ backlog f s x m b
      less m b n = omega (arith, backlog-untouched f s x t y u m b n)

  pub schedule-closed : (j : ℕ) → Closed f s x j t y → Schedule f bound lim t y
  schedule-closed j a = record {
    open-for = open_kept a.age less;
    jobs = λ i b z. elim (eqb_tells i j) [
      | inl e ↦ absurd (omega (arith, ap t.left e.1, a.left_one))
      | inr e ↦ elim (g.jobs i b (omega (arith, a.left_other i b e.1))) [
        | splits w k ↦ splits w (split-kept a.age less i b k)
        | waits w o k ↦ waits w (λ q. omega (arith, q, a.holder)) (wait-kept a.age less i b k)
        | holds w o h ↦ absurd (e.1 (sym o ∙ was-holder f pr s x sh t y j a))
      ]
    ];
  }
    where
      less : (m b : ℕ) → m ≤ f.tasks → backlog f t y m b ≤ backlog f s x m b
      less m b n = backlog-closed f pr s x sh t y j a m b n

  pub schedule-idled : Idled f s x t y → Schedule f bound lim t y
  schedule-idled r = record {
    open-for = λ i b. window-new f t y i (max i 1) (lim.limit i)
        (omega (arith, backlog-none f t y i (max i 1) (λ k l. none k (omega arith)) (omega (arith, r.holder))));
    jobs = λ i b z. absurd (omega (arith, none i b));
  }
    where
      none : (k : ℕ) → k < f.tasks → t.left k ≡ 0
      none k b = elim (choice f s x sh) [
        | stayed e h c ↦ absurd (omega (arith, r.idle))
        | called a l q u w ↦ absurd (omega (arith, r.idle))
        | nobody e q u w ↦ r.left k b ∙ q k b
      ]

  -- a tick in which a task has the core
  module _ (d : Worked f s x t y) where
    ages : (k : ℕ) → k < f.tasks → t.age k ≤ s.age k + 1
    ages k b = omega (arith, d.older k b)

    open-worked : (i : ℕ) → i < f.tasks → Window f t y i i (max i 1) 0 (lim.limit i) 0
    unfolding backlog outranked
    open-worked i b = elim (bool_tells (outranked s i)) [
      | inl some ↦
          let q = some_at i (pending s) some in
          let some_left = pending-yes s q.0 q.2 in
          let w = g.open-for i b in
          let falls : backlog f t y i (max i 1) + 1 ≤ backlog f s x i (max i 1) = backlog-falls f pr s x sh t y d i (max i 1) (omega arith) (omega arith)
          (elim (choice f s x sh) [
            | stayed e h r ↦ elim (leb_tells (suc (chosen f s)) i) [ inl l ↦ inl l.1 | inr l ↦ inr (omega (arith, l.1, q.1), e, r) ]
            | called p l c u v ↦ inl (elim (leb_tells (suc q.0) (chosen f s)) [
              | inl z ↦ absurd (omega (arith, c q.0 z.1, some_left))
              | inr z ↦ omega (arith, z.1, q.1)
            ])
            | nobody e c u v ↦ absurd (omega (arith, d.busy))
          ]) in
          window-tick f pr s x i i (max i 1) 0 (lim.limit i) 0 w t y 0 (λ k l. ages k (omega arith)) falls (omega arith)
          (omega (arith, falls, w.within, charged f pr s x i i (max i 1) 0 (lim.limit i) 0 w b, meets f pr bound lim i b))
      | inr calm ↦
          let none : (k : ℕ) → k < i → s.left k ≡ 0 = λ k l. pending-no s k (none-at i (pending s) calm k l) in
          let past : i ≤ chosen f s = elim (leb_tells i (chosen f s)) [
            | inl l ↦ l.1
            | inr l ↦ absurd (omega (arith, none (chosen f s) l.1, chosen-left f s x sh d.busy))
          ] in
          let zero-sum = sum-none i (owes f t y) (λ k l. owes-none f t y k (d.same k (omega arith) (omega arith) ∙ none k l)) in
          window-new f t y i (max i 1) (lim.limit i) (elim (d.within (max i 1)) [
            | inl z ↦ omega (arith, zero-sum, z)
            | inr z ↦ omega (
              arith,
              zero-sum,
              z.1,
              blocking-at f i (chosen f s) d.busy
                  (elim (eqb_tells i (chosen f s)) [ inl e ↦ inr (e.1, omega (arith, z.0, e.1)) | inr e ↦ inl (omega (arith, e.1)) ]),
            )
          ])
    ]

    -- as long as i has a job, a tick works for it or for what goes before it
    works-for : (i : ℕ) → 0 < s.left i → (chosen f s < suc i) ⊎ ((suc i ≤ chosen f s) × (chosen f s ≡ s.holder) × Unmoved f s)
    works-for i z = elim (choice f s x sh) [
      | stayed e h r ↦ elim (leb_tells (suc (chosen f s)) (suc i)) [ inl l ↦ inl l.1 | inr l ↦ inr (omega (arith, l.1), e, r) ]
      | called p l c u v ↦ inl (elim (leb_tells (suc i) (chosen f s)) [ inl q ↦ absurd (omega (arith, c i q.1)) | inr q ↦ omega (arith, q.1) ])
      | nobody e c u v ↦ absurd (omega (arith, d.busy))
    ]

    -- a whole task that has the tick
    on : (i : ℕ) → i < f.tasks → 0 < t.left i → i ≡ chosen f s → f.whole i ≡ true
        → s.age i + s.left i + dirt f s x i ≤ lim.limit i + scrub_cost f i + f.budget i → Job f bound lim t y i
    on i b z e w h = holds w (d.holds_on (omega (arith, ap t.left e)) ∙ sym e)
        (omega (arith, h, d.spends, ages i b, ap t.left e, ap s.left e, ap (λ k. dirt f s x k) e, ap (λ k. dirt f t y k) e))

    jobs-worked : (i : ℕ) → i < f.tasks → 0 < t.left i → Job f bound lim t y i
    unfolding backlog
    jobs-worked i b z =
        let was : 0 < s.left i = elim (eqb_tells i (chosen f s)) [
          | inl e ↦ omega (arith, ap s.left e.1, chosen-left f s x sh d.busy)
          | inr e ↦ omega (arith, d.same i b e.1)
        ] in
        elim (g.jobs i b was) [
          | splits w k ↦
              let falls : backlog f t y (suc i) (suc i) + 1 ≤ backlog f s x (suc i) (suc i) =
              backlog-falls f pr s x sh t y d (suc i) (suc i) b (omega arith) (works-for i was) in
              splits w (window-tick f pr s x i (suc i) (suc i) (f.budget i + scrub_cost f i) (lim.limit i) (s.age i) k t y (t.age i)
              (λ j l. ages j (omega arith)) falls (ages i b)
              (omega (
                arith,
                falls,
                k.within,
                charged f pr s x i (suc i) (suc i) (f.budget i + scrub_cost f i) (lim.limit i) (s.age i) k b,
                lim.split-meets i b w,
                owes-some f t y i z,
              )))
          | waits w o k ↦ elim (eqb_tells i (chosen f s)) [
            | inl e ↦ on i b z e.1 w (omega (arith, k.short, k.old, sh.budget i b, dirt-le f pr s x sh i b))
            | inr e ↦
                let falls : backlog f t y i (suc i) + 1 ≤ backlog f s x i (suc i) = backlog-falls f pr s x sh t y d i (suc i) (omega arith) (omega arith)
                (elim (works-for i was) [ inl q ↦ inl (omega (arith, q, e.1)) | inr q ↦ inr q ]) in
                waits w (elim d.held [ inl q ↦ λ p. e.1 (sym p ∙ q) | inr q ↦ λ p. omega (arith, p, q) ])
                (window-tick f pr s x i i (suc i) 0 (lim.limit i) (s.age i) k t y (t.age i) (λ j l. ages j (omega arith)) falls (ages i b)
                (omega (arith, falls, k.within, charged f pr s x i i (suc i) 0 (lim.limit i) (s.age i) k b, meets f pr bound lim i b)))
          ]
          | holds w o h ↦ elim (choice f s x sh) [
            | stayed e q r ↦ on i b z (sym o ∙ sym e) w h
            | called p l c u v ↦ absurd (grind (arith, v (omega (arith, o)), ap f.whole o))
            | nobody e c u v ↦ absurd (omega (arith, d.busy))
          ]
        ]

    pub schedule-worked : Schedule f bound lim t y
    schedule-worked = record { open-for = open-worked; jobs = jobs-worked }
