-- What each call does to the state, task by task and way by way.
use Rattle.std.proofs.Common.{◌≡◌, ℕ, ◌+◌, ◌-◌, ◌<◌, ◌≤◌, min, Bool, true, false, cond, not, ◌&&◌, ◌||◌, eqb, ltb, Ok, Err, Result, sym, refl, ap, ◌∙◌, arith}
use Rattle.std.proofs.lemmas.Bool.Decides.{nat_tests}
use Rattle.refusal.specs.Outcome.{after, answered}
use Rattle.resource.specs.Answers.{is_done}
use Rattle.resource.specs.declared.answer.Progress.{Progress}
use Rattle.resource.specs.Seen.{Seen, ScrubOn}
use Rattle.analysis.specs.Floor.{Floor}
use Rattle.runs.specs.declared.fault.CallFault.{CallFault}
use Rattle.runs.specs.declared.fault.CallFault.TheVariants.{Unlisted, TooEarly, NotRunning}
use Rattle.runs.specs.State.{State, Agree, chosen, scrub_way}
use Rattle.runs.specs.Calls.{put, taken, announcing, closed, finishing, rested, scrubbed, served, last_tick, Announced, Finished, Rested, Scrubs, Runs}
use Rattle.runs.specs.History.{refused}
use Rattle.runs.proofs.Shape.{Shape, target, chosen-left}

-- all but ages and budgets is as it was
pub record Alike (f : Floor) (s : State) (x : Seen) (t : State) (y : Seen) : Type 0 where
  pub holder : t.holder ≡ s.holder
  pub under : t.under ≡ s.under
  pub ran : t.ran ≡ s.ran
  pub recorded : (w k : ℕ) → w < f.ways → k < f.tasks → t.recorded w k ≡ s.recorded w k
  pub seen : y ≡ x

-- a call was refused
pub record Untouched (f : Floor) (s : State) (x : Seen) (t : State) (y : Seen) : Type 0 where
  pub age : (k : ℕ) → k < f.tasks → t.age k ≡ s.age k
  pub left : (k : ℕ) → k < f.tasks → t.left k ≡ s.left k
  pub alike : Alike f s x t y

-- a batch of task j was taken
pub record Taken (f : Floor) (s : State) (x : Seen) (j : ℕ) (t : State) (y : Seen) : Type 0 where
  pub listed : j < f.tasks
  pub due : f.period j ≤ s.age j
  pub age-one : t.age j ≡ 0
  pub age-other : (k : ℕ) → k < f.tasks → (k ≡ j → ⊥) → t.age k ≡ s.age k
  pub left_one : t.left j ≡ f.budget j
  pub left_other : (k : ℕ) → k < f.tasks → (k ≡ j → ⊥) → t.left k ≡ s.left k
  pub alike : Alike f s x t y

-- task j was finished by call
pub record Closed (f : Floor) (s : State) (x : Seen) (j : ℕ) (t : State) (y : Seen) : Type 0 where
  pub listed : j < f.tasks
  pub just : s.ran ≡ j
  pub age : (k : ℕ) → k < f.tasks → t.age k ≡ s.age k
  pub left_one : t.left j ≡ 0
  pub left_other : (k : ℕ) → k < f.tasks → (k ≡ j → ⊥) → t.left k ≡ s.left k
  pub holder : t.holder ≡ f.tasks
  pub under : t.under ≡ s.under
  pub ran : t.ran ≡ f.tasks
  pub recorded : (w k : ℕ) → w < f.ways → k < f.tasks → t.recorded w k ≡ s.recorded w k
  pub seen : y ≡ x

-- every task is one tick older, as far as its period
abbrev pub Older : Floor → State → State → Type 0
Older f s t = (k : ℕ) → k < f.tasks → t.age k ≡ min (s.age k + 1) (f.period k)

-- a tick without a task
pub record Idled (f : Floor) (s : State) (x : Seen) (t : State) (y : Seen) : Type 0 where
  pub idle : f.tasks ≤ chosen f s
  pub older : Older f s t
  pub left : (k : ℕ) → k < f.tasks → t.left k ≡ s.left k
  pub holder : t.holder ≡ f.tasks
  pub under : t.under ≡ f.ways
  pub ran : t.ran ≡ f.tasks
  pub recorded : (w k : ℕ) → w < f.ways → k < f.tasks → t.recorded w k ≡ s.recorded w k
  pub seen : y ≡ x

-- a tick that scrubbed
pub record Cleaned (f : Floor) (s : State) (x : Seen) (done : Bool) (t : State) (y : Seen) : Type 0 where
  pub busy : chosen f s < f.tasks
  pub dirty : target f s < f.ways
  pub older : Older f s t
  pub left : (k : ℕ) → k < f.tasks → t.left k ≡ s.left k
  pub holder : t.holder ≡ chosen f s
  pub under : t.under ≡ cond done f.ways (target f s)
  pub ran : t.ran ≡ f.tasks
  pub recorded : (w k : ℕ) → w < f.ways → k < f.tasks → t.recorded w k ≡ (s.recorded w k && not (done && eqb w (target f s)))
  pub fewer : done ≡ false → y.left (target f s) < x.left (target f s)

-- a tick that ran its task
pub record Served (f : Floor) (s : State) (t : State) : Type 0 where
  pub busy : chosen f s < f.tasks
  pub clean : f.ways ≤ target f s
  pub older : Older f s t
  pub left_one : t.left (chosen f s) + 1 ≡ s.left (chosen f s)
  pub left_other : (k : ℕ) → k < f.tasks → (k ≡ chosen f s → ⊥) → t.left k ≡ s.left k
  pub holder : t.holder ≡ cond (eqb (t.left (chosen f s)) 0) f.tasks (chosen f s)
  pub under : t.under ≡ f.ways
  pub ran : t.ran ≡ cond (eqb (t.left (chosen f s)) 0) f.tasks (chosen f s)
  pub recorded : (w k : ℕ) → w < f.ways → k < f.tasks → t.recorded w k ≡ (s.recorded w k || (eqb k (chosen f s) && f.uses (chosen f s) w))

-- what an announcement comes to
pub data Announcement (f : Floor) (s : State) (x : Seen) (i : ℕ) (r : Result (Unit {0}) CallFault) (t : State) (y : Seen) : Type 0 where
  takes : r ≡ Ok tt → Taken f s x i t y → Announcement f s x i r t y
  refuses : refused r ≡ true → (i < f.tasks → s.age i < f.period i) → Untouched f s x t y → Announcement f s x i r t y

-- what a finish comes to
pub data Finish (f : Floor) (s : State) (x : Seen) (i : ℕ) (r : Result (Unit {0}) CallFault) (t : State) (y : Seen) : Type 0 where
  closes : r ≡ Ok tt → Closed f s x i t y → Finish f s x i r t y
  kept-as : refused r ≡ true → Untouched f s x t y → Finish f s x i r t y

put-here : (g : ℕ → ℕ) (j v : ℕ) → put g j v j ≡ v
put-here g j v = grind (arith, nat_tests)

put-off : (g : ℕ → ℕ) (j v k : ℕ) → (k ≡ j → ⊥) → put g j v k ≡ g k
put-off g j v k ne = grind (arith, nat_tests)

untouched : (f : Floor) (s : State) (x : Seen) (t : State) (y : Seen) → Agree f t s → y ≡ x → Untouched f s x t y
untouched f s x t y a e = record {
  age = a.age;
  left = a.left;
  alike = record { holder = a.holder; under = a.under; ran = a.ran; recorded = a.recorded; seen = e };
}

took : (f : Floor) (s : State) (x : Seen) (j : ℕ) (t : State) (y : Seen) → j < f.tasks → f.period j ≤ s.age j → Agree f t (taken f j s) → y ≡ x → Taken f s x j t y
unfolding taken
took f s x j t y l d a e = record {
  listed = l;
  due = d;
  age-one = a.age j l ∙ put-here s.age j 0;
  age-other = λ k b ne. a.age k b ∙ put-off s.age j 0 k ne;
  left_one = a.left j l ∙ put-here s.left j (f.budget j);
  left_other = λ k b ne. a.left k b ∙ put-off s.left j (f.budget j) k ne;
  alike = record { holder = a.holder; under = a.under; ran = a.ran; recorded = a.recorded; seen = e };
}

ended : (f : Floor) (s : State) (x : Seen) (j : ℕ) (t : State) (y : Seen) → j < f.tasks → s.ran ≡ j → Agree f t (closed f j s) → y ≡ x → Closed f s x j t y
unfolding closed
ended f s x j t y l d a e = record {
  listed = l;
  just = d;
  age = a.age;
  left_one = a.left j l ∙ put-here s.left j 0;
  left_other = λ k b ne. a.left k b ∙ put-off s.left j 0 k ne;
  holder = a.holder;
  under = a.under;
  ran = a.ran;
  recorded = a.recorded;
  seen = e;
}

module _ (f : Floor) (s : State) (x : Seen) (i : ℕ) (r : Result (Unit {0}) CallFault) (t : State) (y : Seen) where
  pub of-announced : Announced f s x i r t y → Announcement f s x i r t y
  unfolding announcing
  of-announced d = go (ltb i f.tasks) (ltb (s.age i) (f.period i)) refl refl d.answer d.later
    where
      made : Bool → Bool → Result State CallFault
      made a b = cond a (cond b (Err TooEarly) (Ok (taken f i s))) (Err Unlisted)

      go : (a b : Bool) → ltb i f.tasks ≡ a → ltb (s.age i) (f.period i) ≡ b → r ≡ answered tt (made a b) → Agree f t (after s (made a b))
          → Announcement f s x i r t y
      go true true p q e l = refuses (ap refused e) (λ _. grind (arith, nat_tests)) (untouched f s x t y l d.untouched)
      go true false p q e l = takes e (took f s x i t y (grind (arith, nat_tests)) (grind (arith, nat_tests)) l d.untouched)
      go false b p q e l = refuses (ap refused e) (λ h. absurd (grind (arith, nat_tests))) (untouched f s x t y l d.untouched)

  pub of-finished : Finished f s x i r t y → Finish f s x i r t y
  unfolding finishing
  of-finished d = go (ltb i f.tasks) (eqb s.ran i) refl refl d.answer d.later
    where
      made : Bool → Bool → Result State CallFault
      made a b = cond a (cond b (Ok (closed f i s)) (Err NotRunning)) (Err Unlisted)

      go : (a b : Bool) → ltb i f.tasks ≡ a → eqb s.ran i ≡ b → r ≡ answered tt (made a b) → Agree f t (after s (made a b)) → Finish f s x i r t y
      go true true p q e l = closes e (ended f s x i t y (grind (arith, nat_tests)) (grind (arith, nat_tests)) l d.untouched)
      go true false p q e l = kept-as (ap refused e) (untouched f s x t y l d.untouched)
      go false b p q e l = kept-as (ap refused e) (untouched f s x t y l d.untouched)

module _ (f : Floor) (s : State) (x : Seen) (t : State) (y : Seen) where
  pub idled : Rested f s x t y → Idled f s x t y
  unfolding rested
  idled d = record {
    idle = d.nobody;
    older = d.later.age;
    left = d.later.left;
    holder = d.later.holder;
    under = d.later.under;
    ran = d.later.ran;
    recorded = d.later.recorded;
    seen = d.untouched;
  }

  pub cleaned : (i w : ℕ) (p : Progress) → Scrubs f s x i w (is_done p) t → ScrubOn x w p y → Cleaned f s x (is_done p) t y
  unfolding scrubbed
  cleaned i w p d c =
      let way : w ≡ target f s = d.way ∙ ap (scrub_way f s) d.task in
      record {
        busy = omega (arith, d.task, d.listed);
        dirty = omega (arith, way, d.there);
        older = d.later.age;
        left = d.later.left;
        holder = d.later.holder ∙ d.task;
        under = d.later.under ∙ ap (cond (is_done p) f.ways) way;
        ran = d.later.ran;
        recorded = λ v k l b. d.later.recorded v k l b ∙ ap (λ z. s.recorded v k && not (is_done p && eqb v z)) way;
        fewer = λ e. rw (sym way) (c.falls e);
      }

  pub serves : Shape f s x → (i : ℕ) (e : Bool) → Runs f s x i e t y → Served f s t
  unfolding served
  serves sh i e d =
      let task = d.task in
      let b : chosen f s < f.tasks = omega (arith, task, d.listed) in
      let z = chosen-left f s x sh b in
      let one : t.left (chosen f s) ≡ s.left (chosen f s) - 1 =
      d.later.left (chosen f s) b ∙ ap (λ j. put s.left j (s.left j - 1) (chosen f s)) task ∙ put-here s.left (chosen f s) (s.left (chosen f s) - 1) in
      let last : cond (last_tick s i) f.tasks i ≡ cond (eqb (t.left (chosen f s)) 0) f.tasks (chosen f s) =
      ap (λ j. cond (last_tick s j) f.tasks j) task ∙ ap (λ v. cond (eqb v 0) f.tasks (chosen f s)) (sym one) in
      record {
        busy = b;
        clean = rw (ap (scrub_way f s) (sym task)) d.clean;
        older = d.later.age;
        left_one = omega (arith, one);
        left_other = λ k c ne. d.later.left k c ∙ put-off s.left i (s.left i - 1) k (λ q. ne (q ∙ task));
        holder = d.later.holder ∙ last;
        under = d.later.under;
        ran = d.later.ran ∙ last;
        recorded = λ w k v c. d.later.recorded w k v c ∙ ap (λ j. s.recorded w k || (eqb k j && f.uses j w)) task;
      }
