-- How long the lines of a report are.
use Rattle.std.proofs.Common.{◌≡◌, ℕ, zero, suc, ◌+◌, ◌^◌, ◌<◌, ◌≤◌, List, [], ◌∷◌, ◌++◌, length, get_or, Ok, decimal, ap, add-one, arith, length-append, drop, refl, subst, ◌∙◌}
use Rattle.std.proofs.lemmas.Fmt.{length-decimal-le}
use Rattle.std.proofs.lemmas.List.{take_all}
use Rattle.std.specs.List.{AllByRecursion}
use Rattle.tabletext.specs.Laws.{WellNamed}
use Rattle.taskset.specs.declared.task.Task.{Task}
use Rattle.taskset.specs.Table.{Table, IsLawful, count, task_at, name_in}
use Rattle.taskset.proofs.Tables.{task-there}
use Rattle.report.specs.Names.{AreShort}
use Rattle.report.specs.Page.{line, row}
use Rattle.report.specs.Report.{Settled}
use Rattle.report.specs.Rows.{rows_below}
use Rattle.report.proofs.Box.{both-small}

-- names that were read have at most 16 bytes
pub short-names : (text : List ℕ) (ts : List Task) → AllByRecursion (WellNamed text) ts → AreShort text ts
short-names text [] w i d h = absurd (omega arith)
short-names text (t ∷ ts) w zero d h = omega (arith, w.0.length, w.0.few)
short-names text (t ∷ ts) w (suc i) d h = short-names text ts w.1 i d (omega arith)

-- a number of 64 bits has at most 20 digits
pub twenty-digits : (n : ℕ) → n < 2 ^ 64 → length (decimal n) ≤ 20
twenty-digits n h = length-decimal-le 20 n (omega arith) (omega arith) h

-- the parts of a line are short
pub record ShortParts (name : List ℕ) (first second : ℕ) : Type 0 where
  pub name_short : length name ≤ 16
  pub first_short : length (decimal first) ≤ 7
  pub second_short : length (decimal second) ≤ 7

-- those of each task's line are
pub short-parts : (text : List ℕ) (t : Table) (bounds slacks : List ℕ) (xs : List Task) (i : ℕ) (d : Task) →
    IsLawful t → AreShort text t.tasks → Settled t bounds slacks → xs ≡ t.tasks → i < length xs →
    ShortParts (name_in text (get_or xs i d).name) (get_or bounds i 0) (get_or slacks i 0)
short-parts text t bounds slacks xs i d law names s e h =
    let there : i < count t = omega (arith, ap length e) in
    let small = both-small t bounds slacks i law s there in
    record {
      name_short = rw e (names i d there);
      first_short = length-decimal-le 7 _ (omega arith) small.0 (omega (arith, small.0));
      second_short = length-decimal-le 7 _ (omega arith) small.1 (omega (arith, small.1));
    }

-- and the line has at most 33 bytes
pub row-short : (name : List ℕ) (b s : ℕ) → ShortParts name b s → length (row name b s) ≤ 33
unfolding line
row-short name b s p = simp length-append (omega arith)

-- one line more, by the task itself
pub rows_below-more : (text : List ℕ) (ts xs : List Task) (bounds slacks : List ℕ) (i : ℕ) (d : Task) →
    xs ≡ ts → i < length xs →
    let name = name_in text (get_or xs i d).name in
    rows_below text ts bounds slacks i ++ row name (get_or bounds i 0) (get_or slacks i 0)
    ≡ rows_below text ts bounds slacks (i + 1)
rows_below-more text ts xs bounds slacks i d e h =
    let all : length xs ≤ length xs = omega arith in
    let there : task_at ts i ≡ Ok (get_or xs i d) =
    rw (← e) (rw (take_all (length xs) xs all) at (task-there xs (length xs) i d h all)) in
    rw (add-one, there)

-- what the next of a list from a place on is
pub next-of : {X : Type 0} (xs : List X) (n : ℕ) (x : X) (rest : List X) → drop n xs ≡ x ∷ rest →
    (n < length xs) × ((d : X) → get_or xs n d ≡ x) × (rest ≡ drop (suc n) xs)
next-of [] zero x rest e = absurd cc
next-of [] (suc n) x rest e = absurd cc
next-of (y ∷ xs) zero x rest e = (omega arith, λ d. cc, cc)
next-of (y ∷ xs) (suc n) x rest e = let r = next-of xs n x rest e in (omega (arith, r.0), r.1, r.2)

-- a list with one more
pub one-more : {X : Type 0} (xs : List X) (x : X) → length (xs ++ x ∷ []) ≡ suc (length xs)
one-more [] x = refl
one-more (y ∷ xs) x = ap suc (one-more xs x)

-- the parts of the line of the next task are short
pub short-next : (text : List ℕ) (t : Table) (bounds slacks : List ℕ) (i : ℕ) (d : Task) (w : List ℕ) (b s : ℕ) →
    IsLawful t → AreShort text t.tasks → Settled t bounds slacks → i < length t.tasks → w ≡ name_in text d.name → get_or t.tasks i d ≡ d → get_or bounds i 0 ≡ b → get_or slacks i 0 ≡ s → ShortParts w b s
short-next text t bounds slacks i d w b s law names st h p q u v =
    rw (p, ← u, ← v) (subst (λ (x : Task). ShortParts (name_in text x.name) (get_or bounds i 0) (get_or slacks i 0)) q (short-parts text t bounds slacks t.tasks i d law names st refl h))

-- and with that line there is one row more
pub rows-next : (text : List ℕ) (ts : List Task) (bounds slacks : List ℕ) (i : ℕ) (d : Task) (w : List ℕ) (b s : ℕ) →
    i < length ts → w ≡ name_in text d.name → get_or ts i d ≡ d → get_or bounds i 0 ≡ b → get_or slacks i 0 ≡ s → rows_below text ts bounds slacks i ++ row w b s ≡ rows_below text ts bounds slacks (suc i)
rows-next text ts bounds slacks i d w b s h p q u v =
    let rows = rows_below text ts bounds slacks in
    let next : i + 1 ≡ suc i = omega arith in
    rw (p, ← u, ← v) (subst (λ (x : Task). rows i ++ row (name_in text x.name) (get_or bounds i 0) (get_or slacks i 0) ≡ rows (suc i)) q (rows_below-more text ts ts bounds slacks i d refl h ∙ ap rows next))
