-- What the history tells of the state: the books that the state keeps of each task's batches.
use Rattle.std.proofs.Common.{◌≡◌, ℕ, ◌+◌, ◌<◌, ◌≤◌, min, true, false, cond, ◌⊎◌, List, [], ◌∷◌, sym, refl, ap, ◌∙◌, inl, inr, arith}
use Rattle.std.proofs.lemmas.Bool.Decides.{eqb_tells}
use Rattle.sets.proofs.Below.{bool_tells}
use Rattle.resource.specs.Seen.{Seen}
use Rattle.analysis.specs.Floor.{Floor}
use Rattle.runs.specs.declared.answer.TickAnswer.TheVariants.{Rest, Scrub, Run as RunTask}
use Rattle.runs.specs.State.{State, fresh, chosen}
use Rattle.runs.specs.History.{Event, announce, finish, tick, refused, takes, finishes, runs, is_tick, count, some, since_batch, had_batch}
use Rattle.runs.specs.Run.{Proper, Started, Step, Run, start, more}
use Rattle.runs.proofs.Shape.{Shape}
use Rattle.runs.proofs.Effects.{Untouched, takes as takes-it, refuses, closes, kept-as, of-announced, of-finished, idled, cleaned, serves}
use Rattle.runs.proofs.Window.{Limits}
use Rattle.runs.proofs.Standing.{standing}

-- task i's age and budget left, by its batches taken, its finishes by call and its ticks since the last batch
pub record Books (f : Floor) (s : State) (h : List Event) (i : ℕ) : Type 0 where
  pub never : had_batch i h ≡ false → (s.age i ≡ f.period i) × (s.left i ≡ 0)
  pub age : had_batch i h ≡ true → s.age i ≡ min (count is_tick (since_batch i h)) (f.period i)
  pub work : had_batch i h ≡ true → some (finishes i) (since_batch i h) ≡ false → s.left i + count (runs i) (since_batch i h) ≡ f.budget i
  pub over : had_batch i h ≡ true → some (finishes i) (since_batch i h) ≡ true → s.left i ≡ 0

pub books-start : (f : Floor) (s : State) (x : Seen) (i : ℕ) → i < f.tasks → Started f s x → Books f s [] i
unfolding fresh
books-start f s x i b o = record {
  never = λ _. (o.state.age i b, o.state.left i b);
  age = λ e. absurd (grind arith);
  work = λ e _. absurd (grind arith);
  over = λ e _. absurd (grind arith);
}

-- the event takes a batch of i
books-takes : (f : Floor) (t : State) (e : Event) (h : List Event) (i : ℕ) → takes i e ≡ true → t.age i ≡ 0 → t.left i ≡ f.budget i → Books f t (e ∷ h) i
books-takes f t e h i q a l =
    let none : since_batch i (e ∷ h) ≡ [] = rw q refl in
    record {
      never = λ c. absurd (grind arith);
      age = λ _. rw none (omega (arith, a));
      work = λ _ _. rw none (omega (arith, l));
      over = λ _ c. absurd (grind (arith, rw none at c));
    }

-- what an event that takes no batch of i does to i: it is one tick older or not, and it is finished by call, or has one tick less, or as many as before
pub record Goes (f : Floor) (s : State) (e : Event) (t : State) (i : ℕ) : Type 0 where
  pub other : takes i e ≡ false
  pub age : t.age i ≡ min (s.age i + cond (is_tick e) 1 0) (f.period i)
  pub left : ((finishes i e ≡ true) × (t.left i ≡ 0)) ⊎ ((finishes i e ≡ false) × (t.left i + cond (runs i e) 1 0 ≡ s.left i))

books-goes : (f : Floor) (s : State) (e : Event) (t : State) (h : List Event) (i : ℕ) → Books f s h i → Goes f s e t i → Books f t (e ∷ h) i
books-goes f s e t h i k g =
    let since : since_batch i (e ∷ h) ≡ e ∷ since_batch i h = rw g.other refl in
    let had : had_batch i (e ∷ h) ≡ had_batch i h = rw g.other refl in
    record {
      never = λ c. never (sym had ∙ c);
      age = λ c. rw since (age (sym had ∙ c));
      work = λ c n. rw since (work (sym had ∙ c) (rw since at n));
      over = λ c n. over (sym had ∙ c) (rw since at n);
    }
  where
    never : had_batch i h ≡ false → (t.age i ≡ f.period i) × (t.left i ≡ 0)
    never c =
        let q = k.never c in
        (omega (arith, g.age, q.0), elim g.left [ inl l ↦ l.1 | inr l ↦ omega (arith, l.1, q.1) ])

    age : had_batch i h ≡ true → t.age i ≡ min (count is_tick (e ∷ since_batch i h)) (f.period i)
    age c = omega (arith, g.age, k.age c)

    work : had_batch i h ≡ true → some (finishes i) (e ∷ since_batch i h) ≡ false → t.left i + count (runs i) (e ∷ since_batch i h) ≡ f.budget i
    work c n = elim g.left [
      | inl l ↦ absurd (grind arith)
      | inr l ↦ omega (arith, l.1, k.work c (grind arith))
    ]

    over : had_batch i h ≡ true → some (finishes i) (e ∷ since_batch i h) ≡ true → t.left i ≡ 0
    over c n = elim g.left [
      | inl l ↦ l.1
      | inr l ↦ omega (arith, l.1, k.over c (grind arith))
    ]

-- no age is above its period
pub young : (f : Floor) (s : State) (h : List Event) (i : ℕ) → Books f s h i → s.age i ≤ f.period i
young f s h i k = elim (bool_tells (had_batch i h)) [
  | inl c ↦ omega (arith, k.age c)
  | inr c ↦ omega (arith, (k.never c).0)
]

module _ (f : Floor) (s : State) (x : Seen) (t : State) (y : Seen) (h : List Event) (i : ℕ) (b : i < f.tasks) (k : Books f s h i) where
  -- a refused call
  books-untouched : (e : Event) → takes i e ≡ false → finishes i e ≡ false → runs i e ≡ false → is_tick e ≡ false → Untouched f s x t y → Books f t (e ∷ h) i
  books-untouched e p q r n u = books-goes f s e t h i k (record {
    other = p;
    age = rw n (omega (arith, u.age i b, young f s h i k));
    left = inr (q, rw r (omega (arith, u.left i b)));
  })

  pub books-step : Shape f s x → (e : Event) → Step f s x e t y → Books f t (e ∷ h) i
  books-step sh (announce j r) d = elim (of-announced f s x j r t y d) [
    | takes-it e a ↦
        let yes : refused r ≡ false = ap refused e in
        elim (eqb_tells i j) [
          | inl q ↦ books-takes f t (announce j r) h i (grind arith) (ap t.age q.1 ∙ a.age-one) (ap t.left q.1 ∙ a.left_one ∙ ap f.budget (sym q.1))
          | inr q ↦ books-goes f s (announce j r) t h i k (record {
            other = grind arith;
            age = omega (arith, a.age-other i b q.1, young f s h i k);
            left = inr (refl, omega (arith, a.left_other i b q.1));
          })
        ]
    | refuses e c a ↦ books-untouched (announce j r) (grind arith) refl refl refl a
  ]
  books-step sh (finish j r) d = elim (of-finished f s x j r t y d) [
    | closes e a ↦
        let yes : refused r ≡ false = ap refused e in
        books-goes f s (finish j r) t h i k (record {
          other = refl;
          age = omega (arith, a.age i b, young f s h i k);
          left = elim (eqb_tells i j) [
            | inl q ↦ inl (grind arith, ap t.left q.1 ∙ a.left_one)
            | inr q ↦ inr (grind arith, omega (arith, a.left_other i b q.1))
          ];
        })
    | kept-as e a ↦ books-untouched (finish j r) refl (grind arith) refl refl a
  ]
  books-step sh (tick z Rest) d =
      let a = idled f s x t y d.1 in
      books-goes f s (tick z Rest) t h i k (record { other = refl; age = a.older i b; left = inr (refl, omega (arith, a.left i b)) })
  books-step sh (tick z (Scrub j w p)) d =
      let a = cleaned f s x t y j w p d.1.0 d.1.1 in
      books-goes f s (tick z (Scrub j w p)) t h i k (record { other = refl; age = a.older i b; left = inr (refl, omega (arith, a.left i b)) })
  books-step sh (tick z (RunTask j e)) d =
      let a = serves f s x t y sh j e d.1 in
      books-goes f s (tick z (RunTask j e)) t h i k (record {
        other = refl;
        age = a.older i b;
        left = inr (
          refl,
          elim (eqb_tells i j) [
            | inl q ↦
                let p : i ≡ chosen f s = q.1 ∙ d.1.task in
                let l : t.left i + 1 ≡ s.left i = ap (λ v. t.left v + 1) p ∙ a.left_one ∙ ap s.left (sym p) in
                grind arith
            | inr q ↦
                let l : t.left i ≡ s.left i = a.left_other i b (λ p. q.1 (p ∙ sym d.1.task)) in
                grind arith
          ],
        );
      })

module _ (f : Floor) (pr : Proper f) (bound : ℕ → ℕ) (lim : Limits f bound) where
  pub books : (h : List Event) (s : State) (x : Seen) → Run f h s x → (i : ℕ) → i < f.tasks → Books f s h i
  books [] s x (start o) i b = books-start f s x i b o
  books (e ∷ h) t y (more {s = s} {x = x} r d) i b = books-step f s x t y h i b (books h s x r i b) (standing f pr bound lim h s x r).shape e d
