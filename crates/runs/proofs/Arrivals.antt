-- What a batch taken, a finish by call and a refused call do to the backlogs.
use Rattle.std.proofs.Common.{◌≡◌, ℕ, suc, ◌+◌, ◌<◌, ◌≤◌, sym, ap, ◌∙◌, inl, inr, arith}
use Rattle.std.proofs.lemmas.Bool.Decides.{eqb_tells, leb_tells}
use Rattle.sets.proofs.Below.{bool_tells}
use Rattle.resource.specs.Seen.{Seen}
use Rattle.analysis.specs.Floor.{Floor}
use Rattle.analysis.specs.Charges.{scrub_cost, resume_below}
use Rattle.runs.specs.State.{State, pending}
use Rattle.runs.specs.Run.{Proper}
use Rattle.runs.proofs.Sums.{zero_or, spike, spike-here, sum_mono, sum_same, sum-rise}
use Rattle.runs.proofs.Shape.{Shape}
use Rattle.runs.proofs.Effects.{Alike, Untouched, Taken, Closed}
use Rattle.runs.proofs.Taint.{tainted-same}
use Rattle.runs.proofs.Potential.{dirt_on, dirt, begun, outranked, scrub_due, owes, held_up, backlog, outranked-same, outranked-some, due-off, due-whole, due-top, due-under, owes-none, owes-some, held-off, begun-le, resume-at}

module _ (f : Floor) (s : State) (x : Seen) (t : State) (y : Seen) (a : Alike f s x t y) where
  needs-same : (w : ℕ) → y.left w ≡ x.left w
  needs-same w = ap (λ z. z.left w) a.seen

  pub dirt-same : (k : ℕ) → dirt f t y k ≡ dirt f s x k
  unfolding dirt dirt_on
  dirt-same k = sum_same f.ways (dirt_on f t y k) (dirt_on f s x k) (λ w l. grind (arith, tainted-same f s t a.recorded k w l, needs-same w, a.under))

  begun-same : begun f t y ≡ begun f s x
  unfolding begun
  begun-same = let n : y.left t.under ≡ x.left s.under = needs-same t.under ∙ ap x.left a.under in let u = a.under in grind arith

  owes_same : (k : ℕ) → t.left k ≡ s.left k → outranked t k ≡ outranked s k → owes f t y k ≡ owes f s x k
  unfolding owes scrub_due pending
  owes_same k l o = let d = dirt-same k in let r = begun-same in let h = a.holder in grind arith

  -- nothing else moves the holder
  held_same : (s.holder < f.tasks → t.left s.holder ≡ s.left s.holder) → (b : ℕ) → held_up f t y b ≡ held_up f s x b
  held_same same b = elim (leb_tells (suc s.holder) f.tasks) [
    | inr o ↦ held-off f t y b (inr (omega (arith, o.1, a.holder))) ∙ sym (held-off f s x b (inr (omega (arith, o.1))))
    | inl o ↦ go (same o.1)
  ]
    where
      go : t.left s.holder ≡ s.left s.holder → held_up f t y b ≡ held_up f s x b
      go q = unfold held_up in
          let h = a.holder in
          let le : t.left t.holder ≡ s.left s.holder = ap t.left h ∙ q in
          let dr : dirt f t y t.holder ≡ dirt f s x s.holder = ap (λ k. dirt f t y k) h ∙ dirt-same s.holder in
          let re = begun-same in
          let wh : f.whole t.holder ≡ f.whole s.holder = ap f.whole h in
          grind arith

  pub backlog-same : (m b : ℕ) → m ≤ f.tasks → ((k : ℕ) → k < m → t.left k ≡ s.left k) → (s.holder < f.tasks → t.left s.holder ≡ s.left s.holder)
      → backlog f t y m b ≡ backlog f s x m b
  unfolding backlog
  backlog-same m b n left hold =
      let same = sum_same m (owes f t y) (owes f s x) (λ k q. owes_same k (left k q) (outranked-same s t k (λ i l. left i (omega arith)))) in
      omega (arith, same, held_same hold b)

-- a refused call
pub backlog-untouched : (f : Floor) (s : State) (x : Seen) (t : State) (y : Seen) → Untouched f s x t y → (m b : ℕ) → m ≤ f.tasks → backlog f t y m b ≡ backlog f s x m b
backlog-untouched f s x t y u m b n = backlog-same f s x t y u.alike m b n (λ k l. u.left k (omega arith)) (λ h. u.left s.holder h)

module _ (f : Floor) (pr : Proper f) (s : State) (x : Seen) (sh : Shape f s x) (t : State) (y : Seen) where
  -- a batch taken of a task without a job
  module _ (j : ℕ) (a : Taken f s x j t y) (free : s.left j ≡ 0) where
    pub not-holder : j ≡ s.holder → ⊥
    not-holder e = omega (arith, sh.holds (omega (arith, a.listed)), ap s.left e)

    holder-left : s.holder < f.tasks → t.left s.holder ≡ s.left s.holder
    holder-left h = a.left_other s.holder h (λ q. not-holder (sym q))

    -- it may make a split holder scrub all its ways again
    raised : (m k : ℕ) → k < m → k ≡ s.holder → k < f.tasks → owes f t y k ≤ owes f s x k + resume_below f j m
    raised m k l e b =
        let le : t.left k ≡ s.left k = a.left_other k b (λ q. not-holder (sym q ∙ e)) in
        let dr = dirt-same f s x t y a.alike k in
        let re = begun-same f s x t y a.alike in
        let up : k ≡ t.holder = e ∙ sym a.alike.holder in
        elim (zero_or (s.left k)) [
          | inl z ↦ omega (arith, owes-none f t y k (le ∙ z))
          | inr z ↦
              let was = owes-some f s x k z in
              let now = owes-some f t y k (omega arith) in
              elim (leb_tells (suc j) k) [
                | inr o ↦ omega (
                  arith,
                  owes_same f s x t y a.alike k le
                      (outranked-same s t k (λ i q. a.left_other i (omega arith) (omega (arith, o.1)))),
                )
                | inl o ↦ elim (bool_tells (f.whole k)) [
                  | inl w ↦ omega (arith, due-whole f s x k e w, due-whole f t y k up w)
                  | inr w ↦
                      let cost = resume-at f j m k l o.1 w in
                      let lo = outranked-some t k j o.1 (omega (arith, a.left_one, pr.budgets j a.listed)) in
                      let high = due-under f t y k up w lo in
                      elim (bool_tells (outranked s k)) [
                        | inl c ↦ omega (arith, due-under f s x k e w c)
                        | inr c ↦ omega (arith, due-top f s x k e c, begun-le f pr s x sh (omega arith), ap (λ h. dirt f s x h) e)
                      ]
                ]
              ]
        ]

    -- a backlog that counts the task
    pub backlog-taken : (m b : ℕ) → m ≤ f.tasks → j < m → backlog f t y m b ≤ backlog f s x m b + (f.budget j + scrub_cost f j + resume_below f j m)
    unfolding backlog
    backlog-taken m b n l =
        let own = f.budget j + scrub_cost f j in
        let r = resume_below f j m in
        let rise = sum-rise m (owes f t y) (owes f s x) j own s.holder r (λ k q. elim (eqb_tells k j) [
          | inl e ↦
              let now = owes-some f t y j (omega (arith, a.left_one, pr.budgets j a.listed)) in
              let due = due-off f t y j (λ c. not-holder (c ∙ a.alike.holder)) in
              rw e.1 (omega (arith, now, due, a.left_one, spike-here j own))
          | inr e ↦ elim (eqb_tells k s.holder) [
            | inl c ↦ omega (arith, raised m k q c.1 (omega arith), ap (λ h. spike h r k) (sym c.1), spike-here k r)
            | inr c ↦
                let le = a.left_other k (omega arith) e.1 in
                elim (zero_or (s.left k)) [
                  | inl z ↦ omega (arith, owes-none f t y k (le ∙ z))
                  | inr z ↦ omega (arith, owes-some f s x k z, owes-some f t y k (omega arith), due-off f s x k c.1, due-off f t y k (λ d. c.1 (d ∙ a.alike.holder)))
                ]
          ]
        ]) in
        omega (arith, rise, held_same f s x t y a.alike holder-left b)

    -- and one that does not
    pub backlog-above : (m b : ℕ) → m ≤ f.tasks → m ≤ j → backlog f t y m b ≡ backlog f s x m b
    backlog-above m b n l = backlog-same f s x t y a.alike m b n (λ k q. a.left_other k (omega arith) (omega arith)) holder-left

  -- a finish by call frees the core
  module _ (j : ℕ) (a : Closed f s x j t y) where
    pub was-holder : s.holder ≡ j
    was-holder = sym (sh.runs (omega (arith, a.just, a.listed))).0 ∙ a.just

    -- the others may have to scrub what they might before
    pub closed-due : (k : ℕ) → k < f.tasks → (k ≡ j → ⊥) → scrub_due f t y k ≡ scrub_due f s x k
    closed-due k b ne = due-off f t y k (λ c. omega (arith, c, a.holder)) ∙ sym (due-off f s x k (λ c. ne (c ∙ was-holder)))

    pub backlog-closed : (m b : ℕ) → m ≤ f.tasks → backlog f t y m b ≤ backlog f s x m b
    unfolding backlog
    backlog-closed m b n =
        let less = sum_mono m (owes f t y) (owes f s x) (λ k q. elim (eqb_tells k j) [
          | inl e ↦ omega (arith, owes-none f t y k (ap t.left e.1 ∙ a.left_one))
          | inr e ↦
              let le = a.left_other k (omega arith) e.1 in
              elim (zero_or (s.left k)) [
                | inl z ↦ omega (arith, owes-none f t y k (le ∙ z))
                | inr z ↦ omega (arith, owes-some f s x k z, owes-some f t y k (omega arith), closed-due k (omega arith) e.1)
              ]
        ]) in
        omega (arith, less, held-off f t y b (inr (omega (arith, a.holder))))
