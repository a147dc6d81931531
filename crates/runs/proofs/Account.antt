-- The account of scrubbing: the ticks spent on it, with what the jobs may still scrub, are within the allowances of the batches taken.
use Rattle.std.proofs.Common.{◌≡◌, ℕ, suc, ◌+◌, ◌<◌, ◌≤◌, Bool, true, cond, ltb, List, [], ◌∷◌, Ok, Err, Result, sym, refl, ap, ◌∙◌, inl, inr, arith}
use Rattle.std.proofs.lemmas.Bool.Decides.{nat_tests, eqb_tells, leb_tells}
use Rattle.resource.specs.Answers.{is_done}
use Rattle.resource.specs.Seen.{Seen}
use Rattle.analysis.specs.Sums.{sum_below}
use Rattle.analysis.specs.Floor.{Floor}
use Rattle.analysis.specs.Charges.{allowance}
use Rattle.runs.specs.declared.answer.TickAnswer.TheVariants.{Rest, Scrub, Run as RunTask}
use Rattle.runs.specs.declared.fault.CallFault.{CallFault}
use Rattle.runs.specs.State.{State, fresh, chosen}
use Rattle.runs.specs.History.{Event, announce, finish, tick, refused, scrubs, count, allowances}
use Rattle.runs.specs.Run.{Proper, Step, Run, start, more}
use Rattle.runs.proofs.Sums.{zero_or, sum-none, sum_same, sum_mono, sum-add, sum_one}
use Rattle.runs.proofs.Shape.{Shape, stayed, called, nobody, choice}
use Rattle.runs.proofs.Effects.{Untouched, Taken, Closed, Idled, Cleaned, Served, takes, refuses, closes, kept-as, of-announced, of-finished, idled, cleaned, serves}
use Rattle.runs.proofs.Potential.{scrub_due, owes, held_up, backlog, owes-none, owes-some, held-off}
use Rattle.runs.proofs.Worked.{worked-scrub, worked-run, sum-falls}
use Rattle.runs.proofs.Arrivals.{backlog-untouched, backlog-taken, closed-due}
use Rattle.runs.proofs.Window.{Limits}
use Rattle.runs.proofs.Schedule.{due-free}
use Rattle.runs.proofs.Standing.{Standing, standing}

-- what the job of task k, if it has one, may still scrub
unfoldable may_scrub : Floor → State → Seen → ℕ → ℕ
may_scrub f s x k = cond (ltb 0 (s.left k)) (scrub_due f s x k) 0

scrub-none : (f : Floor) (s : State) (x : Seen) (k : ℕ) → s.left k ≡ 0 → may_scrub f s x k ≡ 0
unfolding may_scrub
scrub-none f s x k z = grind (arith, nat_tests)

scrub-some : (f : Floor) (s : State) (x : Seen) (k : ℕ) → 0 < s.left k → may_scrub f s x k ≡ scrub_due f s x k
unfolding may_scrub
scrub-some f s x k z = grind (arith, nat_tests)

-- a job owes what is left of its budget and what it may still scrub
owes-parts : (f : Floor) (s : State) (x : Seen) (k : ℕ) → owes f s x k ≡ s.left k + may_scrub f s x k
owes-parts f s x k = elim (zero_or (s.left k)) [
  | inl z ↦ omega (arith, owes-none f s x k z, scrub-none f s x k z)
  | inr z ↦ omega (arith, owes-some f s x k z, scrub-some f s x k z)
]

sum-parts : (f : Floor) (s : State) (x : Seen) (m : ℕ) → sum_below m (owes f s x) ≡ sum_below m s.left + sum_below m (may_scrub f s x)
sum-parts f s x m = sum_same m (owes f s x) (λ k. s.left k + may_scrub f s x k) (λ k l. owes-parts f s x k) ∙ sum-add m s.left (may_scrub f s x)

-- beyond all tasks nobody holds the core
no-held : (f : Floor) (s : State) (x : Seen) → held_up f s x f.tasks ≡ 0
no-held f s x = held-off f s x f.tasks (elim (leb_tells (suc s.holder) f.tasks) [ inl e ↦ inl e.1 | inr e ↦ inr (omega (arith, e.1)) ])

-- all that the jobs may still scrub
unfoldable all_scrub : Floor → State → Seen → ℕ
all_scrub f s x = sum_below f.tasks (may_scrub f s x)

module _ (f : Floor) (pr : Proper f) (s : State) (x : Seen) (sh : Shape f s x) (t : State) (y : Seen) where
  all-cleaned : (done : Bool) → Cleaned f s x done t y → all_scrub f t y + 1 ≤ all_scrub f s x
  unfolding all_scrub
  all-cleaned done d =
      omega (
        arith,
        sum-falls f pr s x sh t y (worked-scrub f pr s x sh t y done d) f.tasks (omega arith) d.busy,
        sum-parts f s x f.tasks,
        sum-parts f t y f.tasks,
        sum_same f.tasks t.left s.left d.left,
      )

  all-served : Served f s t → all_scrub f t y ≤ all_scrub f s x
  unfolding all_scrub
  all-served d =
      omega (
        arith,
        sum-falls f pr s x sh t y (worked-run f pr s x sh t y d) f.tasks (omega arith) d.busy,
        sum-parts f s x f.tasks,
        sum-parts f t y f.tasks,
        sum_one f.tasks (chosen f s) 1 s.left t.left d.busy (sym d.left_one) (λ k b ne. sym (d.left_other k b ne)),
      )

  all-idled : Idled f s x t y → all_scrub f t y ≤ all_scrub f s x
  unfolding all_scrub
  all-idled d = elim (choice f s x sh) [
    | stayed e h c ↦ absurd (omega (arith, d.idle))
    | called a l q u w ↦ absurd (omega (arith, d.idle))
    | nobody e q u w ↦ omega (arith, sum-none f.tasks (may_scrub f t y) (λ k b. scrub-none f t y k (d.left k b ∙ q k b)))
  ]

  all-taken : (j : ℕ) → Taken f s x j t y → s.left j ≡ 0 → all_scrub f t y ≤ all_scrub f s x + allowance f j
  unfolding all_scrub backlog allowance
  all-taken j a free =
      omega (
        arith,
        backlog-taken f pr s x sh t y j a free f.tasks f.tasks (omega arith) a.listed,
        sum-parts f s x f.tasks,
        sum-parts f t y f.tasks,
        no-held f s x,
        no-held f t y,
        sum_one f.tasks j (f.budget j) t.left s.left a.listed (omega (arith, a.left_one)) a.left_other,
      )

  all_closed : (j : ℕ) → Closed f s x j t y → all_scrub f t y ≤ all_scrub f s x
  unfolding all_scrub
  all_closed j a = sum_mono f.tasks (may_scrub f t y) (may_scrub f s x) (λ k b. elim (eqb_tells k j) [
    | inl e ↦ omega (arith, scrub-none f t y k (ap t.left e.1 ∙ a.left_one))
    | inr e ↦
        let le = a.left_other k b e.1 in
        elim (zero_or (s.left k)) [
          | inl z ↦ omega (arith, scrub-none f t y k (le ∙ z))
          | inr z ↦ omega (arith, scrub-some f s x k z, scrub-some f t y k (omega arith), closed-due f pr s x sh t y j a k b e.1)
        ]
  ])

  all-untouched : Untouched f s x t y → all_scrub f t y ≤ all_scrub f s x
  unfolding all_scrub backlog
  all-untouched u =
      omega (
        arith,
        backlog-untouched f s x t y u f.tasks f.tasks (omega arith),
        sum-parts f s x f.tasks,
        sum-parts f t y f.tasks,
        no-held f s x,
        no-held f t y,
        sum_same f.tasks t.left s.left u.left,
      )

-- what an announcement adds to the allowances
allowed : (f : Floor) (j : ℕ) (r : Result (Unit {0}) CallFault) (h : List Event) → r ≡ Ok tt → allowances f (announce j r ∷ h) ≡ allowance f j + allowances f h
allowed f j r h e = ap (λ r. allowances f (announce j r ∷ h)) e

not-allowed : (f : Floor) (j : ℕ) (r : Result (Unit {0}) CallFault) (h : List Event) → refused r ≡ true → allowances f (announce j r ∷ h) ≡ allowances f h
not-allowed f j (Ok v) h e = absurd (grind arith)
not-allowed f j (Err c) h e = refl

module _ (f : Floor) (pr : Proper f) (bound : ℕ → ℕ) (lim : Limits f bound) where
  account-step : (s : State) (x : Seen) (e : Event) (t : State) (y : Seen) (h : List Event) → Standing f bound lim s x → Step f s x e t y
      → count scrubs h + all_scrub f s x ≤ allowances f h → count scrubs (e ∷ h) + all_scrub f t y ≤ allowances f (e ∷ h)
  account-step s x (announce j r) t y h g d c = elim (of-announced f s x j r t y d) [
    | takes e a ↦ omega (arith, all-taken f pr s x g.shape t y j a (due-free f pr bound lim s x g.shape g.schedule j a.listed a.due), allowed f j r h e)
    | refuses e q a ↦ omega (arith, all-untouched f pr s x g.shape t y a, not-allowed f j r h e)
  ]
  account-step s x (finish j r) t y h g d c = elim (of-finished f s x j r t y d) [
    | closes e a ↦ omega (arith, all_closed f pr s x g.shape t y j a)
    | kept-as e a ↦ omega (arith, all-untouched f pr s x g.shape t y a)
  ]
  account-step s x (tick z Rest) t y h g d c = omega (arith, all-idled f pr s x g.shape t y (idled f s x t y d.1))
  account-step s x (tick z (Scrub i w p)) t y h g d c =
      omega (arith, all-cleaned f pr s x g.shape t y (is_done p) (cleaned f s x t y i w p d.1.0 d.1.1))
  account-step s x (tick z (RunTask i e)) t y h g d c = omega (arith, all-served f pr s x g.shape t y (serves f s x t y g.shape i e d.1))

  account : (h : List Event) (s : State) (x : Seen) → Run f h s x → count scrubs h + all_scrub f s x ≤ allowances f h
  unfolding all_scrub fresh
  account [] s x (start o) = omega (arith, sum-none f.tasks (may_scrub f s x) (λ k b. scrub-none f s x k (o.state.left k b)))
  account (e ∷ h) t y (more {s = s} {x = x} r d) = account-step s x e t y h (standing f pr bound lim h s x r) d (account h s x r)

  pub paid_for : (h : List Event) (s : State) (x : Seen) → Run f h s x → count scrubs h ≤ allowances f h
  paid_for h s x r = omega (arith, account h s x r)
