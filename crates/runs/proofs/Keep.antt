-- Every call keeps the plain shape.
use Rattle.std.proofs.Common.{◌≡◌, ℕ, ◌<◌, ◌≤◌, Bool, true, false, ◌&&◌, eqb, sym, ap, ◌∙◌, inl, inr, arith}
use Rattle.std.proofs.lemmas.Bool.Decides.{nat_tests, eqb_tells}
use Rattle.sets.specs.Sets.{has}
use Rattle.sets.proofs.Below.{bool_tells}
use Rattle.resource.specs.Answers.{is_done}
use Rattle.resource.specs.declared.answer.Progress.{Progress}
use Rattle.resource.specs.Seen.{Seen, Fixed, ScrubOn, RunOn, touched}
use Rattle.analysis.specs.Floor.{Floor}
use Rattle.runs.specs.State.{State, fresh, tainted, chosen, scrub_way}
use Rattle.runs.specs.Calls.{Scrubs, Runs}
use Rattle.runs.specs.Run.{Proper, Started}
use Rattle.runs.proofs.Sums.{and_left, and_right}
use Rattle.runs.proofs.Shape.{Shape, target, chosen-left, target-tainted}
use Rattle.runs.proofs.Effects.{Alike, Untouched, Taken, Closed, Idled, Cleaned, Served, cleaned, serves}
use Rattle.runs.proofs.Taint.{tainted-same, scrub-going}

pub shape-start : (f : Floor) (s : State) (x : Seen) → Started f s x → Shape f s x
unfolding fresh
shape-start f s x o = record {
  budget = λ k b. omega (arith, o.state.left k b);
  holds = λ b. absurd (omega (arith, o.state.holder));
  scrubs = λ b. absurd (omega (arith, o.state.under));
  owners = λ w k v b h. absurd (grind (arith, o.state.recorded w k v b));
  runs = λ b. absurd (omega (arith, o.state.ran));
  sound = o.sound;
  there = o.there;
  priced = o.priced;
  traced = λ w k v b h. absurd (grind (arith, o.bare w k));
}

module _ (f : Floor) (pr : Proper f) (s : State) (x : Seen) (sh : Shape f s x) (t : State) (y : Seen) where
  -- a call that leaves everything but ages and budgets
  keep-alike : Alike f s x t y → ((k : ℕ) → k < f.tasks → t.left k ≤ f.budget k) → (s.holder < f.tasks → 0 < t.left s.holder) → Shape f t y
  keep-alike a budget holds = record {
    budget = budget;
    holds = λ b. rw a.holder (holds (omega (arith, a.holder)));
    scrubs = λ b.
        let u = sh.scrubs (omega (arith, a.under)) in (
          omega (arith, u.0, a.holder),
          ap (λ h. tainted f t h t.under) a.holder ∙ ap (λ w. tainted f t s.holder w) a.under
              ∙ tainted-same f s t a.recorded s.holder s.under (omega (arith, a.under)) ∙ u.1,
        );
    owners = λ w k v b h. sh.owners w k v b (sym (a.recorded w k v b) ∙ h);
    runs = λ b. let q = sh.runs (omega (arith, a.ran)) in (a.ran ∙ q.0 ∙ sym a.holder, omega (arith, q.1, a.under));
    sound = rw a.seen sh.sound;
    there = rw a.seen sh.there;
    priced = rw a.seen sh.priced;
    traced = λ w k v b h. a.recorded w k v b ∙ sh.traced w k v b (ap (λ z. z.traces w k) (sym a.seen) ∙ h);
  }

  pub keep-untouched : Untouched f s x t y → Shape f t y
  keep-untouched u = keep-alike u.alike (λ k b. omega (arith, u.left k b, sh.budget k b)) (λ b. omega (arith, u.left s.holder b, sh.holds b))

  -- that the job before is over is not asked
  pub keep_taken : (j : ℕ) → Taken f s x j t y → Shape f t y
  keep_taken j a = keep-alike a.alike
      (λ k b. elim (eqb_tells k j) [
        | inl e ↦ omega (arith, ap t.left e.1, a.left_one, ap f.budget e.1)
        | inr e ↦ omega (arith, a.left_other k b e.1, sh.budget k b)
      ])
      (λ b. elim (eqb_tells s.holder j) [
        | inl e ↦ omega (arith, ap t.left e.1, a.left_one, pr.budgets j a.listed)
        | inr e ↦ omega (arith, a.left_other s.holder b e.1, sh.holds b)
      ])

  pub keep-closed : (j : ℕ) → Closed f s x j t y → Shape f t y
  keep-closed j a = record {
    budget = λ k b. elim (eqb_tells k j) [
      | inl e ↦ omega (arith, ap t.left e.1, a.left_one)
      | inr e ↦ omega (arith, a.left_other k b e.1, sh.budget k b)
    ];
    holds = λ b. absurd (omega (arith, a.holder));
    scrubs = λ b. absurd (omega (arith, a.under, (sh.runs (omega (arith, a.just, a.listed))).1));
    owners = λ w k v b h. sh.owners w k v b (sym (a.recorded w k v b) ∙ h);
    runs = λ b. absurd (omega (arith, a.ran));
    sound = rw a.seen sh.sound;
    there = rw a.seen sh.there;
    priced = rw a.seen sh.priced;
    traced = λ w k v b h. a.recorded w k v b ∙ sh.traced w k v b (ap (λ z. z.traces w k) (sym a.seen) ∙ h);
  }

  pub keep-idled : Idled f s x t y → Shape f t y
  keep-idled a = record {
    budget = λ k b. omega (arith, a.left k b, sh.budget k b);
    holds = λ b. absurd (omega (arith, a.holder));
    scrubs = λ b. absurd (omega (arith, a.under));
    owners = λ w k v b h. sh.owners w k v b (sym (a.recorded w k v b) ∙ h);
    runs = λ b. absurd (omega (arith, a.ran));
    sound = rw a.seen sh.sound;
    there = rw a.seen sh.there;
    priced = rw a.seen sh.priced;
    traced = λ w k v b h. a.recorded w k v b ∙ sh.traced w k v b (ap (λ z. z.traces w k) (sym a.seen) ∙ h);
  }

  -- the ways and costs that have stayed
  there-still : Fixed x y → (i w : ℕ) → i < f.tasks → f.uses i w ≡ true → w < y.ways
  there-still fx i w b u = omega (arith, fx.ways, sh.there i w b u)

  priced-still : Fixed x y → (i w : ℕ) → i < f.tasks → f.uses i w ≡ true → y.cost w ≡ f.cost w
  priced-still fx i w b u = fx.cost w ∙ sh.priced i w b u

  pub keep-served : (i : ℕ) (e : Bool) → Runs f s x i e t y → Shape f t y
  keep-served i e d =
      let r = serves f s x t y sh i e d in
      let c = d.call in
      record {
        budget = λ k b. elim (eqb_tells k (chosen f s)) [
          | inl q ↦ omega (arith, ap t.left q.1, ap s.left q.1, r.left_one, sh.budget k b)
          | inr q ↦ omega (arith, r.left_other k b q.1, sh.budget k b)
        ];
        holds = λ b. elim (eqb_tells (t.left (chosen f s)) 0) [
          | inl q ↦ absurd (grind (arith, r.holder))
          | inr q ↦ let h : t.holder ≡ chosen f s = grind (arith, r.holder) in omega (arith, ap t.left h, q.1)
        ];
        scrubs = λ b. absurd (omega (arith, r.under));
        owners = λ w k v b h. elim (bool_tells (s.recorded w k)) [
          | inl q ↦ sh.owners w k v b q
          | inr q ↦
              let n : (eqb k (chosen f s) && f.uses (chosen f s) w) ≡ true = grind (arith, r.recorded w k v b) in
              own k w (and_left (eqb k (chosen f s)) _ n) (and_right (eqb k (chosen f s)) _ n)
        ];
        runs = λ b. (r.ran ∙ sym r.holder, omega (arith, r.under));
        sound = c.after;
        there = there-still c.fixed;
        priced = priced-still c.fixed;
        traced = traced r c;
      }
    where
      own : (k w : ℕ) → eqb k (chosen f s) ≡ true → f.uses (chosen f s) w ≡ true → f.uses k w ≡ true
      own k w p q = elim (eqb_tells k (chosen f s)) [ inl g ↦ ap (λ j. f.uses j w) g.1 ∙ q | inr g ↦ absurd (grind arith) ]

      traced : Served f s t → RunOn x i d.ways y → (w k : ℕ) → w < f.ways → k < f.tasks → y.traces w k ≡ true → t.recorded w k ≡ true
      traced r c w k v b h =
          let now = r.recorded w k v b in
          let old : x.traces w k ≡ true → t.recorded w k ≡ true = λ q. let z = sh.traced w k v b q in grind arith in
          elim (bool_tells (touched x i d.ways w)) [
            | inr off ↦ old (sym ((c.other w off).traces k) ∙ h)
            | inl on ↦ elim (c.only w k on h) [
              | inr q ↦ old q
              | inl q ↦
                  let u : has d.ways w ≡ true = grind (arith, on) in
                  let p : eqb k (chosen f s) ≡ true = grind (arith, nat_tests, q, d.task) in
                  let m : f.uses (chosen f s) w ≡ true = ap (λ j. f.uses j w) (sym d.task) ∙ sym (d.its w) ∙ u in
                  grind arith
            ]
          ]

  -- what both answers to a scrub call keep; a way that is still under scrub must still be scrubbed
  keep-scrubbed : (w : ℕ) (p : Progress) → w ≡ target f s → Cleaned f s x (is_done p) t y → ScrubOn x w p y
      → (t.under < f.ways → tainted f t (chosen f s) t.under ≡ true) → Shape f t y
  keep-scrubbed w p way r c going = record {
    budget = λ k b. omega (arith, r.left k b, sh.budget k b);
    holds = λ b. omega (arith, ap t.left r.holder, r.left (chosen f s) r.busy, chosen-left f s x sh r.busy);
    scrubs = λ b. (omega (arith, r.holder, r.busy), ap (λ h. tainted f t h t.under) r.holder ∙ going b);
    owners = λ v k l b h. sh.owners v k l b (and_left (s.recorded v k) _ (sym (r.recorded v k l b) ∙ h));
    runs = λ b. absurd (omega (arith, r.ran));
    sound = c.after;
    there = there-still c.fixed;
    priced = priced-still c.fixed;
    traced = traced;
  }
    where
      traced : (v k : ℕ) → v < f.ways → k < f.tasks → y.traces v k ≡ true → t.recorded v k ≡ true
      traced v k l b h =
          let now = r.recorded v k l b in
          elim (eqb_tells v w) [
            | inr ne ↦
                let q = sh.traced v k l b (sym ((c.other v ne.1).traces k) ∙ h) in
                let n : eqb v (target f s) ≡ false = grind (arith, nat_tests, ne.1) in
                grind arith
            | inl e ↦
                let h2 : y.traces w k ≡ true = ap (λ u. y.traces u k) (sym e.1) ∙ h in
                elim (bool_tells (is_done p)) [
                  | inl done ↦ absurd (grind (arith, c.done done k))
                  | inr on ↦
                      let q = sh.traced v k l b (ap (λ u. x.traces u k) e.1 ∙ c.adds k h2) in
                      grind arith
                ]
          ]

  pub keep-cleaned : (i w : ℕ) (p : Progress) → Scrubs f s x i w (is_done p) t → ScrubOn x w p y → Shape f t y
  keep-cleaned i w p d c = keep-scrubbed w p way r c (going (is_done p) r)
    where
      r : Cleaned f s x (is_done p) t y
      r = cleaned f s x t y i w p d c

      way : w ≡ target f s
      way = d.way ∙ ap (λ j. scrub_way f s j) d.task

      going : (done : Bool) → Cleaned f s x done t y → t.under < f.ways → tainted f t (chosen f s) t.under ≡ true
      going true q b = absurd (omega (arith, q.under))
      going false q b = ap (λ w. tainted f t (chosen f s) w) q.under
          ∙ scrub-going f pr s x sh t y q (chosen f s) (target f s) q.dirty ∙ target-tainted f s x sh q.dirty
