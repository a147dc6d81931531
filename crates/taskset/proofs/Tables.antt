-- Tables: their tasks by number, and their pairs.
use Rattle.std.proofs.Common.{◌≡◌, ℕ, zero, suc, ◌+◌, ◌<◌, ◌≤◌, Bool, true, false, cond, ◌&&◌, ◌||◌, eqb, ◌⊎◌, List, [], ◌∷◌, ◌++◌, length, get_or, take, set, Ok, Err, sym, refl, ap, ◌∙◌, inl, inr, ⊎_elim, arith, length-append, length-set, false-eqb}
use Rattle.std.proofs.lemmas.List.{get_or-set_same, get_or-set_other}
use Rattle.std.proofs.lemmas.Bool.Decides.{nat_tests, eqb_tells, leb_tells}
use Rattle.taskset.specs.declared.fault.DraftFault.TheVariants.{Unlisted}
use Rattle.taskset.specs.declared.task.Task.{Task}
use Rattle.taskset.specs.Figures.{lawful, all_lawful}
use Rattle.sets.specs.Sets.{TaskSet, has, in_range, nobody, with_member}
use Rattle.sets.proofs.Sets.{has-with}
use Rattle.taskset.specs.Table.{Table, IsLawful, noleak, both_listed, count, task_at, with_task, with_pair}

false-true : false ≡ true → ⊥
false-true z = let n : ◌≡◌ {A = ℕ} 0 1 = ap (λ b. cond b 1 0) z in omega arith

-- what it means that two numbers are those of tasks
pub both-listed : (t : Table) (from to : ℕ) → both_listed t from to ≡ true → (from < count t) × (to < count t)
both-listed t from to h =
    ⊎_elim
    (λ p. ⊎_elim (λ q. (p.1, q.1)) (λ q. absurd (false-true (grind (arith, p.0, q.0, h)))) (leb_tells (suc to) (count t)))
    (λ p. absurd (false-true (grind (arith, p.0, h))))
    (leb_tells (suc from) (count t))

pub all_push : (ts : List Task) (t : Task) → all_lawful ts ≡ true → lawful t.figures ≡ true → all_lawful (ts ++ t ∷ []) ≡ true
all_push [] t h e = ap (λ v. v && true) e
all_push (x ∷ ts) t h e = let i = all_push ts t in grind arith

-- a number past the last names no task
pub task-past : (ts : List Task) (i : ℕ) → length ts ≤ i → task_at ts i ≡ Err Unlisted
task-past [] i h = refl
task-past (t ∷ ts) zero h = absurd (omega arith)
task-past (t ∷ ts) (suc i) h = task-past ts i (omega arith)

-- any other the task in its place
pub task-there : (ts : List Task) (n i : ℕ) (d : Task) → i < n → n ≤ length ts → task_at (take n ts) i ≡ Ok (get_or ts i d)
task-there ts zero i d h k = absurd (omega arith)
task-there [] (suc n) i d h k = absurd (omega arith)
task-there (t ∷ ts) (suc n) zero d h k = refl
task-there (t ∷ ts) (suc n) (suc i) d h k = task-there ts n i d (omega arith) (omega arith)

nobody-else : (ss : List TaskSet) (i : ℕ) → get_or (ss ++ nobody 16 ∷ []) i (nobody 16) ≡ get_or ss i (nobody 16)
nobody-else [] zero = refl
nobody-else [] (suc i) = refl
nobody-else (s ∷ ss) zero = refl
nobody-else (s ∷ ss) (suc i) = nobody-else ss i

-- one task more makes no pair
pub noleak-task : (t : Table) (task : Task) (k i : ℕ) → noleak (with_task t task) k i ≡ noleak t k i
noleak-task t task k i = ap (λ (s : TaskSet). has s k) (nobody-else t.pairs i)

-- and the table stays lawful
pub lawful-task : (t : Table) (task : Task) → IsLawful t → count t < 16 → lawful task.figures ≡ true → IsLawful (with_task t task)
lawful-task t task h room l =
    let tasks : length (t.tasks ++ task ∷ []) ≡ length t.tasks + 1 = length-append t.tasks (task ∷ []) in
    let pairs : length (t.pairs ++ nobody 16 ∷ []) ≡ length t.pairs + 1 = length-append t.pairs (nobody 16 ∷ []) in
    let was : (k i : ℕ) → noleak (with_task t task) k i ≡ true → noleak t k i ≡ true = λ k i e. sym (noleak-task t task k i) ∙ e in record {
      few = omega arith;
      figures = all_push t.tasks task h.figures l;
      places = omega (arith, h.places);
      listed = λ k i e. let b = h.listed k i (was k i e) in (omega (arith, b.0), omega (arith, b.1));
      apart = λ i e. h.apart i (was i i e);
    }

-- one pair more, besides those that stand
pub noleak-pair : (t : Table) (from to : ℕ) → IsLawful t → from < count t → to < count t → (k i : ℕ) → noleak (with_pair t from to) k i ≡ (noleak t k i || (eqb k from && eqb i to))
noleak-pair t from to h l m k i =
    let s = get_or t.pairs to (nobody 16) in
    let r : has (with_member s from) k ≡ (has s k || (eqb from k && in_range 16 k)) = has-with s from k in
    let place : to < length t.pairs = omega (arith, h.places) in
    let inside : from < 16 = omega (arith, h.few) in
    ⊎_elim
    (λ p.
    let q : get_or (set t.pairs to (with_member s from)) i (nobody 16) ≡ with_member s from = ap (λ (j : ℕ). get_or (set t.pairs to (with_member s from)) j (nobody 16)) p.1 ∙ get_or-set_same t.pairs to (with_member s from) (nobody 16) place in
    let u : noleak (with_pair t from to) k i ≡ has (with_member s from) k = ap (λ (x : TaskSet). has x k) q in
    let v : noleak t k i ≡ has s k = ap (λ (j : ℕ). has (get_or t.pairs j (nobody 16)) k) p.1 in
    grind (arith, nat_tests, p.0))
    (λ p.
    let q : get_or (set t.pairs to (with_member s from)) i (nobody 16) ≡ get_or t.pairs i (nobody 16) = get_or-set_other t.pairs to i (with_member s from) (nobody 16) p.1 in
    let u : noleak (with_pair t from to) k i ≡ noleak t k i = ap (λ (x : TaskSet). has x k) q in
    grind (arith, nat_tests, p.0))
    (eqb_tells i to)

-- a pair that stands with one more is that one or stood before
pair-was : (old new : Bool) (k i from to : ℕ) → new ≡ (old || (eqb k from && eqb i to)) → new ≡ true → (old ≡ true) ⊎ ((k ≡ from) × (i ≡ to))
pair-was true new k i from to e h = inl refl
pair-was false new k i from to e h =
    ⊎_elim
    (λ p. ⊎_elim (λ q. inr (p.1, q.1)) (λ q. absurd (false-true (grind (arith, p.0, q.0, e, h)))) (eqb_tells i to))
    (λ p. absurd (false-true (grind (arith, p.0, e, h))))
    (eqb_tells k from)

-- and the table stays lawful, where the two differ
pub lawful-pair : (t : Table) (from to : ℕ) → IsLawful t → from < count t → to < count t → eqb from to ≡ false → IsLawful (with_pair t from to)
lawful-pair t from to h l m ne =
    let was : (k i : ℕ) → noleak (with_pair t from to) k i ≡ true → (noleak t k i ≡ true) ⊎ ((k ≡ from) × (i ≡ to)) = λ k i e. pair-was _ _ k i from to (noleak-pair t from to h l m k i) e in record {
      few = h.few;
      figures = h.figures;
      places = length-set t.pairs to (with_member (get_or t.pairs to (nobody 16)) from) ∙ h.places;
      listed = λ k i e. ⊎_elim (λ o. h.listed k i o) (λ p. (omega (arith, p.0, l), omega (arith, p.1, m))) (was k i e);
      apart = λ i e. ⊎_elim (λ o. h.apart i o) (λ p. let same : from ≡ to = sym p.0 ∙ p.1 in false-eqb from to (sym ne) same) (was i i e);
    }
