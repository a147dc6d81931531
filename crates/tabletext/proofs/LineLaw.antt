-- Reading a line reports its first fault, or no fault applies to it and the table is what it says.
use Rattle.std.proofs.Common.{◌≡◌, ℕ, ◌+◌, ◌<◌, ◌≤◌, Bool, true, false, cond, eqb, ltb, List, [], ◌∷◌, length, get_or, Some, None, Ok, Err, codes, Option, Result, unwrap_or, sym, refl, ap, ◌∙◌, subst, inl, inr, ⊎_elim, arith}
use Rattle.std.specs.Option.{ok_or}
use Rattle.std.specs.List.{prefix_len}
use Rattle.std.specs.Str.{bytes_eq}
use Rattle.std.proofs.lemmas.List.Sums.{prefix_len-le-length}
use Rattle.std.proofs.lemmas.Bool.Decides.{nat_tests}
use Rattle.std.proofs.str.Laws.{order}
use Rattle.taskset.specs.declared.fault.DraftFault.{DraftFault}
use Rattle.taskset.specs.declared.fault.DraftFault.TheVariants.{FullTable, WildFigure, Itself, Unlisted}
use Rattle.taskset.specs.Figures.{lawful}
use Rattle.taskset.specs.Table.{Table, count, paired, both_listed, with_task, with_pair}
use Rattle.textparts.specs.declared.bytes.Class.TheVariants.{Printable}
use Rattle.textparts.specs.Bytes.{has}
use Rattle.textparts.specs.Laws.{Stands}
use Rattle.textparts.specs.Spans.{Span}
use Rattle.textparts.specs.Tokens.{Token, word, number, remark, pieces}
use Rattle.textparts.proofs.Runs.{run-yes, run-stop}
use Rattle.tabletext.specs.declared.fault.LineFault.{LineFault}
use Rattle.tabletext.specs.declared.fault.LineFault.TheVariants.{StrayByte, OddLine, OddWord, TwiceNamed, Unnamed, Draft}
use Rattle.tabletext.specs.Faults.{line_told}
use Rattle.tabletext.specs.Faulty.{bytes, place, checks, WrongAt, named, figures_said, task_said, StrayAt, AppliesTo, form_of, FirstOf, NoneOf, number_of, said_by}
use Rattle.tabletext.specs.Forms.{TaskWords, PairWords, Form, skipped, task, noleak, task_words, pair_words, form, next}
use Rattle.tabletext.specs.Laws.{is_named}
use Rattle.tabletext.specs.Lines.{carried, find_from, free, form_read, line_read}
use Rattle.tabletext.proofs.Answer.{both, ok-err, err-same}
use Rattle.tabletext.proofs.Checks.{first_wrong, none-wrong, leftmost-wrong, task-checked, pair-checked, task-rise, pair-rise}
use Rattle.tabletext.proofs.Names.{Found, find-tells, one_name}
use Rattle.tabletext.proofs.Pieces.{Fine, six_of, two_of, task-fine, pair-fine}

-- what an answer says of the line
abbrev pub Verdict : List ℕ → Table → Span → Result Form LineFault → Result Table LineFault → Type 0
Verdict text t l f (Ok u) = NoneOf text t l f × (u ≡ said_by text t f)
Verdict text t l f (Err e) = FirstOf text t l f e

abbrev num : Span → LineFault → ℕ
num l g = (line_told l.place g).number

abbrev det : Span → LineFault → ℕ
det l g = (line_told l.place g).detail

-- first is what applies, has the least number, and stands leftmost among those of its number
first_by : (text : List ℕ) (t : Table) (l : Span) (f : Result Form LineFault) (e : LineFault) → AppliesTo text t l f e → ((g : LineFault) → AppliesTo text t l f g → num l e ≤ num l g) → ((g : LineFault) → AppliesTo text t l f g → num l e ≡ num l g → det l e ≤ det l g) → FirstOf text t l f e
first_by text t l f e a low same = record {
  applies = a;
  first = λ g b. ⊎_elim (λ lt. inl lt) (λ ge. let eq : num l e ≡ num l g = omega (arith, low g b) in inr (eq, same g b eq)) (order (num l e) (num l g));
}

abbrev NoStray : Span → Type 0
NoStray l = (p : ℕ) → StrayAt l p → ⊥

-- stray bytes: none, or the leftmost
no_stray : (l : Span) → eqb (prefix_len (has Printable) l.bytes) (length l.bytes) ≡ true → NoStray l
no_stray l e p a =
    let all : prefix_len (has Printable) l.bytes ≡ length l.bytes = grind (arith, nat_tests) in
    both (has Printable (get_or l.bytes a.0 0)) (run-yes (has Printable) l.bytes a.0 0 (omega (arith, a.2))) a.3

first-stray : (text : List ℕ) (t : Table) (l : Span) (f : Result Form LineFault) → eqb (prefix_len (has Printable) l.bytes) (length l.bytes) ≡ false → FirstOf text t l f (StrayByte (l.place + prefix_len (has Printable) l.bytes))
first-stray text t l f e =
    let n = prefix_len (has Printable) l.bytes in
    let short : n < length l.bytes = let le = prefix_len-le-length (has Printable) l.bytes in grind (arith, nat_tests) in
    first_by text t l f (StrayByte (l.place + n)) (n, refl, short, run-stop (has Printable) l.bytes 0 short) low same
  where
    low : (g : LineFault) → AppliesTo text t l f g → 2 ≤ num l g
    low (StrayByte p) a = omega arith
    low OddLine a = omega arith
    low (OddWord p) a = omega arith
    low (TwiceNamed p) a = omega arith
    low (Unnamed p) a = omega arith
    low (Draft FullTable) a = omega arith
    low (Draft WildFigure) a = omega arith
    low (Draft Itself) a = omega arith
    low (Draft Unlisted) a = omega arith

    earliest : (p : ℕ) → StrayAt l p → l.place + prefix_len (has Printable) l.bytes ≤ p
    earliest p a =
        ⊎_elim
        (λ lt. both (has Printable (get_or l.bytes a.0 0)) (run-yes (has Printable) l.bytes a.0 0 lt) a.3)
        (λ ge. omega (arith, a.1))
        (order a.0 (prefix_len (has Printable) l.bytes))

    same : (g : LineFault) → AppliesTo text t l f g → 2 ≡ num l g → l.place + prefix_len (has Printable) l.bytes ≤ det l g
    same (StrayByte p) a q = earliest p a
    same OddLine a q = absurd (omega arith)
    same (OddWord p) a q = absurd (omega arith)
    same (TwiceNamed p) a q = absurd (omega arith)
    same (Unnamed p) a q = absurd (omega arith)
    same (Draft FullTable) a q = absurd (omega arith)
    same (Draft WildFigure) a q = absurd (omega arith)
    same (Draft Itself) a q = absurd (omega arith)
    same (Draft Unlisted) a q = absurd a

-- a line without a form
first-odd-line : (text : List ℕ) (t : Table) (l : Span) (e : LineFault) → NoStray l → FirstOf text t l (Err e) OddLine
first-odd-line text t l e ns = first_by text t l (Err e) OddLine tt low same
  where
    low : (g : LineFault) → AppliesTo text t l (Err e) g → 3 ≤ num l g
    low (StrayByte p) a = absurd (ns p a)
    low OddLine a = omega arith
    low (OddWord p) a = absurd a
    low (TwiceNamed p) a = absurd a
    low (Unnamed p) a = absurd a
    low (Draft FullTable) a = absurd a
    low (Draft WildFigure) a = absurd a
    low (Draft Itself) a = absurd a
    low (Draft Unlisted) a = absurd a

    same : (g : LineFault) → AppliesTo text t l (Err e) g → 3 ≡ num l g → l.place ≤ det l g
    same (StrayByte p) a q = absurd (ns p a)
    same OddLine a q = omega arith
    same (OddWord p) a q = absurd a
    same (TwiceNamed p) a q = absurd a
    same (Unnamed p) a q = absurd a
    same (Draft FullTable) a q = absurd a
    same (Draft WildFigure) a q = absurd a
    same (Draft Itself) a q = absurd a
    same (Draft Unlisted) a q = absurd a

-- a skipped line
none-skipped : (text : List ℕ) (t : Table) (l : Span) → NoStray l → NoneOf text t l (Ok skipped)
none-skipped text t l ns (StrayByte p) a = ns p a
none-skipped text t l ns OddLine a = a
none-skipped text t l ns (OddWord p) a = a
none-skipped text t l ns (TwiceNamed p) a = a
none-skipped text t l ns (Unnamed p) a = a
none-skipped text t l ns (Draft FullTable) a = a
none-skipped text t l ns (Draft WildFigure) a = a
none-skipped text t l ns (Draft Itself) a = a
none-skipped text t l ns (Draft Unlisted) a = a

-- a word of the wrong shape
first-odd-word : (text : List ℕ) (t : Table) (l : Span) (f : Form) (p : ℕ) → NoStray l → WrongAt (checks f) p → ((q : ℕ) → WrongAt (checks f) q → p ≤ q) → FirstOf text t l (Ok f) (OddWord p)
first-odd-word text t l f p ns w least = first_by text t l (Ok f) (OddWord p) w low same
  where
    low : (g : LineFault) → AppliesTo text t l (Ok f) g → 4 ≤ num l g
    low (StrayByte q) a = absurd (ns q a)
    low OddLine a = absurd a
    low (OddWord q) a = omega arith
    low (TwiceNamed q) a = omega arith
    low (Unnamed q) a = omega arith
    low (Draft FullTable) a = omega arith
    low (Draft WildFigure) a = omega arith
    low (Draft Itself) a = omega arith
    low (Draft Unlisted) a = absurd a

    same : (g : LineFault) → AppliesTo text t l (Ok f) g → 4 ≡ num l g → p ≤ det l g
    same (StrayByte q) a e = absurd (ns q a)
    same OddLine a e = absurd a
    same (OddWord q) a e = least q a
    same (TwiceNamed q) a e = absurd (omega arith)
    same (Unnamed q) a e = absurd (omega arith)
    same (Draft FullTable) a e = absurd (omega arith)
    same (Draft WildFigure) a e = absurd (omega arith)
    same (Draft Itself) a e = absurd (omega arith)
    same (Draft Unlisted) a e = absurd a

-- task lines ------------------------------------------------------------------------------------------------------------------

-- what is known of a task line whose words have the right shapes
record TaskSo (text : List ℕ) (t : Table) (l : Span) (w : TaskWords) : Type 0 where
  stray : NoStray l
  wrong : (p : ℕ) → WrongAt (checks (task w)) p → ⊥

first-twice : (text : List ℕ) (t : Table) (l : Span) (w : TaskWords) → TaskSo text t l w → named text t.tasks (bytes w.name) ≡ true → FirstOf text t l (Ok (task w)) (TwiceNamed (place w.name))
first-twice text t l w s e = first_by text t l (Ok (task w)) (TwiceNamed (place w.name)) (refl, e) low same
  where
    low : (g : LineFault) → AppliesTo text t l (Ok (task w)) g → 5 ≤ num l g
    low (StrayByte q) a = absurd (s.stray q a)
    low OddLine a = absurd a
    low (OddWord q) a = absurd (s.wrong q a)
    low (TwiceNamed q) a = omega arith
    low (Unnamed q) a = absurd a
    low (Draft FullTable) a = omega arith
    low (Draft WildFigure) a = omega arith
    low (Draft Itself) a = absurd a
    low (Draft Unlisted) a = absurd a

    same : (g : LineFault) → AppliesTo text t l (Ok (task w)) g → 5 ≡ num l g → place w.name ≤ det l g
    same (StrayByte q) a e = absurd (s.stray q a)
    same OddLine a e = absurd a
    same (OddWord q) a e = absurd (omega arith)
    same (TwiceNamed q) a e = omega (arith, a.0)
    same (Unnamed q) a e = absurd a
    same (Draft FullTable) a e = absurd (omega arith)
    same (Draft WildFigure) a e = absurd (omega arith)
    same (Draft Itself) a e = absurd a
    same (Draft Unlisted) a e = absurd a

-- what the draft says of a task line with a fresh name, from some number on
task-draft : (text : List ℕ) (t : Table) (l : Span) (w : TaskWords) (d : DraftFault) (n : ℕ) → TaskSo text t l w → named text t.tasks (bytes w.name) ≡ false → n ≤ 8 → ((16 ≤ count t) → n ≤ 7) → (g : LineFault) → AppliesTo text t l (Ok (task w)) g → (n ≤ num l g) × (l.place ≤ det l g)
task-draft text t l w d n s f hi full (StrayByte q) a = absurd (s.stray q a)
task-draft text t l w d n s f hi full OddLine a = absurd a
task-draft text t l w d n s f hi full (OddWord q) a = absurd (s.wrong q a)
task-draft text t l w d n s f hi full (TwiceNamed q) a = both _ a.1 f
task-draft text t l w d n s f hi full (Unnamed q) a = absurd a
task-draft text t l w d n s f hi full (Draft FullTable) a = (omega (arith, full a), omega arith)
task-draft text t l w d n s f hi full (Draft WildFigure) a = (omega arith, omega arith)
task-draft text t l w d n s f hi full (Draft Itself) a = absurd a
task-draft text t l w d n s f hi full (Draft Unlisted) a = absurd a

none-task : (text : List ℕ) (t : Table) (l : Span) (w : TaskWords) → TaskSo text t l w → named text t.tasks (bytes w.name) ≡ false → ltb (count t) 16 ≡ true → lawful (figures_said w) ≡ true → NoneOf text t l (Ok (task w))
none-task text t l w s f room ok (StrayByte q) a = s.stray q a
none-task text t l w s f room ok OddLine a = a
none-task text t l w s f room ok (OddWord q) a = s.wrong q a
none-task text t l w s f room ok (TwiceNamed q) a = both _ a.1 f
none-task text t l w s f room ok (Unnamed q) a = a
none-task text t l w s f room ok (Draft FullTable) a = let lt : count t < 16 = grind (arith, nat_tests) in omega (arith, lt, a)
none-task text t l w s f room ok (Draft WildFigure) a = both _ ok a
none-task text t l w s f room ok (Draft Itself) a = a
none-task text t l w s f room ok (Draft Unlisted) a = a

task-verdict : (text : List ℕ) (t : Table) (l : Span) (w : TaskWords) → Fine text (six_of w) → NoStray l →
    (r : Result (Unit {0}) LineFault) → first_wrong (checks (task w)) ≡ r → (o : Option ℕ) → Found text 0 t.tasks (bytes w.name) o → (room : Bool) → ltb (count t) 16 ≡ room → (ok : Bool) → lawful (figures_said w) ≡ ok →
    Verdict text t l (Ok (task w)) (next r (λ _. next (free o (place w.name)) (λ _. carried (cond room (cond ok (Ok (with_task t (task_said w))) (Err WildFigure)) (Err FullTable)))))
task-verdict text t l w f ns (Err e) er o fo room rm ok k =
    let x = leftmost-wrong (checks (task w)) e (task-rise text w f) er in
    subst (FirstOf text t l (Ok (task w))) (sym x.1) (first-odd-word text t l (task w) x.0 ns x.2 x.3)
task-verdict text t l w f ns (Ok tt) er (Some a) fo room rm ok k = first-twice text t l w (record { stray = ns; wrong = none-wrong (checks (task w)) er }) fo.0
task-verdict text t l w f ns (Ok tt) er None fo false rm ok k =
    let s : TaskSo text t l w = record { stray = ns; wrong = none-wrong (checks (task w)) er } in
    let full : 16 ≤ count t = grind (arith, nat_tests) in
    let d = task-draft text t l w FullTable 7 s fo (omega arith) (λ _. omega arith) in
    first_by text t l (Ok (task w)) (Draft FullTable) full (λ g a. (d g a).0) (λ g a q. (d g a).1)
task-verdict text t l w f ns (Ok tt) er None fo true rm false k =
    let s : TaskSo text t l w = record { stray = ns; wrong = none-wrong (checks (task w)) er } in
    let lt : count t < 16 = grind (arith, nat_tests) in
    let d = task-draft text t l w WildFigure 8 s fo (omega arith) (λ h. absurd (omega (arith, lt, h))) in
    first_by text t l (Ok (task w)) (Draft WildFigure) k (λ g a. (d g a).0) (λ g a q. (d g a).1)
task-verdict text t l w f ns (Ok tt) er None fo true rm true k = (none-task text t l w (record { stray = ns; wrong = none-wrong (checks (task w)) er }) fo rm k, refl)

-- noleak lines ----------------------------------------------------------------------------------------------------------------

record PairSo (text : List ℕ) (t : Table) (l : Span) (w : PairWords) : Type 0 where
  stray : NoStray l
  wrong : (p : ℕ) → WrongAt (checks (noleak w)) p → ⊥

first-unnamed : (text : List ℕ) (t : Table) (l : Span) (w : PairWords) (p : ℕ) → PairSo text t l w → AppliesTo text t l (Ok (noleak w)) (Unnamed p) → ((q : ℕ) → AppliesTo text t l (Ok (noleak w)) (Unnamed q) → p ≤ q) → FirstOf text t l (Ok (noleak w)) (Unnamed p)
first-unnamed text t l w p s a least = first_by text t l (Ok (noleak w)) (Unnamed p) a low same
  where
    low : (g : LineFault) → AppliesTo text t l (Ok (noleak w)) g → 6 ≤ num l g
    low (StrayByte q) a = absurd (s.stray q a)
    low OddLine a = absurd a
    low (OddWord q) a = absurd (s.wrong q a)
    low (TwiceNamed q) a = absurd a
    low (Unnamed q) a = omega arith
    low (Draft FullTable) a = absurd a
    low (Draft WildFigure) a = absurd a
    low (Draft Itself) a = omega arith
    low (Draft Unlisted) a = absurd a

    same : (g : LineFault) → AppliesTo text t l (Ok (noleak w)) g → 6 ≡ num l g → p ≤ det l g
    same (StrayByte q) a e = absurd (s.stray q a)
    same OddLine a e = absurd a
    same (OddWord q) a e = absurd (omega arith)
    same (TwiceNamed q) a e = absurd a
    same (Unnamed q) a e = least q a
    same (Draft FullTable) a e = absurd a
    same (Draft WildFigure) a e = absurd a
    same (Draft Itself) a e = absurd (omega arith)
    same (Draft Unlisted) a e = absurd a

-- both names are tasks'
only-itself : (text : List ℕ) (t : Table) (l : Span) (w : PairWords) → PairSo text t l w → named text t.tasks (bytes w.from) ≡ true → named text t.tasks (bytes w.to) ≡ true → (g : LineFault) → AppliesTo text t l (Ok (noleak w)) g → (g ≡ Draft Itself) × (bytes w.from ≡ bytes w.to)
only-itself text t l w s x y (StrayByte q) a = absurd (s.stray q a)
only-itself text t l w s x y OddLine a = absurd a
only-itself text t l w s x y (OddWord q) a = absurd (s.wrong q a)
only-itself text t l w s x y (TwiceNamed q) a = absurd a
only-itself text t l w s x y (Unnamed q) a = ⊎_elim (λ b. both _ x b.1) (λ b. both _ y b.1) a
only-itself text t l w s x y (Draft FullTable) a = absurd a
only-itself text t l w s x y (Draft WildFigure) a = absurd a
only-itself text t l w s x y (Draft Itself) a = (refl, a)
only-itself text t l w s x y (Draft Unlisted) a = absurd a

pair-verdict : (text : List ℕ) (t : Table) (l : Span) (w : PairWords) → Fine text (two_of w) → NoStray l →
    (r : Result (Unit {0}) LineFault) → first_wrong (checks (noleak w)) ≡ r →
    (o : Option ℕ) → find_from text 0 t.tasks (bytes w.from) ≡ o → Found text 0 t.tasks (bytes w.from) o →
    (v : Option ℕ) → find_from text 0 t.tasks (bytes w.to) ≡ v → Found text 0 t.tasks (bytes w.to) v →
    Verdict text t l (Ok (noleak w)) (next r (λ _. next (ok_or o (Unnamed (place w.from))) (λ k. next (ok_or v (Unnamed (place w.to))) (λ i. carried (paired t k i)))))
pair-verdict text t l w f ns (Err e) er o qo fo v qv fv =
    let x = leftmost-wrong (checks (noleak w)) e (pair-rise text w f) er in
    subst (FirstOf text t l (Ok (noleak w))) (sym x.1) (first-odd-word text t l (noleak w) x.0 ns x.2 x.3)
pair-verdict text t l w f ns (Ok tt) er None qo fo v qv fv =
    first-unnamed text t l w (place w.from) (record { stray = ns; wrong = none-wrong (checks (noleak w)) er }) (inl (refl, fo)) (λ q a. ⊎_elim (λ b. omega (arith, b.0)) (λ b. omega (arith, b.0, f.rise.0.0)) a)
pair-verdict text t l w f ns (Ok tt) er (Some k) qo fo None qv fv =
    first-unnamed text t l w (place w.to) (record { stray = ns; wrong = none-wrong (checks (noleak w)) er }) (inr (refl, fv)) (λ q a. ⊎_elim (λ b. both _ fo.0 b.1) (λ b. omega (arith, b.0)) a)
pair-verdict text t l w f ns (Ok tt) er (Some k) qo fo (Some i) qv fv =
    let s : PairSo text t l w = record { stray = ns; wrong = none-wrong (checks (noleak w)) er } in
    let only = only-itself text t l w s fo.0 fv.0 in
    let kl : k < count t = omega (arith, fo.1.1, fo.1.2) in
    let il : i < count t = omega (arith, fv.1.1, fv.1.2) in
    let kn : is_named text t.tasks k (bytes w.from) ≡ true = let e : k ≡ fo.1.0 = omega (arith, fo.1.1) in ap (λ j. is_named text t.tasks j (bytes w.from)) e ∙ fo.1.3 in
    let ion : is_named text t.tasks i (bytes w.to) ≡ true = let e : i ≡ fv.1.0 = omega (arith, fv.1.1) in ap (λ j. is_named text t.tasks j (bytes w.to)) e ∙ fv.1.3 in
    let listed : both_listed t k i ≡ true = grind (arith, nat_tests) in
    let inside : cond (both_listed t k i) (cond (eqb k i) (Err Itself) (Ok (with_pair t k i))) (Err Unlisted) ≡ cond (eqb k i) (Err Itself) (Ok (with_pair t k i)) = ap (λ b. cond b (cond (eqb k i) (Err Itself) (Ok (with_pair t k i))) (Err Unlisted)) listed in
    let is : with_pair t k i ≡ said_by text t (Ok (noleak w)) = ap (λ x. with_pair t x i) (ap (λ y. unwrap_or y 0) (sym qo)) ∙ ap (λ x. with_pair t (number_of text t (bytes w.from)) x) (ap (λ y. unwrap_or y 0) (sym qv)) in
    subst (λ y. Verdict text t l (Ok (noleak w)) (carried y)) (sym inside)
    ((elim (eqb k i) as (λ b. eqb k i ≡ b → Verdict text t l (Ok (noleak w)) (carried (cond b (Err Itself) (Ok (with_pair t k i))))) [
      | true ↦ λ e.
          let ki : k ≡ i = grind (arith, nat_tests) in
          let names : bytes w.from ≡ bytes w.to = one_name text t.tasks k (bytes w.from) (bytes w.to) kn (ap (λ j. is_named text t.tasks j (bytes w.to)) ki ∙ ion) in
          first_by text t l (Ok (noleak w)) (Draft Itself) names
          (λ g a. subst (λ h. 9 ≤ num l h) (sym (only g a).0) (omega arith))
          (λ g a q. subst (λ h. l.place ≤ det l h) (sym (only g a).0) (omega arith))
      | false ↦ λ e. (
        (λ g a.
            let same : k ≡ i = let one : ◌≡◌ {A = Option ℕ} (Some k) (Some i) = sym qo ∙ ap (find_from text 0 t.tasks) (only g a).1 ∙ qv in cc in
            let yes : eqb k i ≡ true = grind (arith, nat_tests) in
            both (eqb k i) yes e),
        is,
      )
    ]) refl)

-- every line ------------------------------------------------------------------------------------------------------------------

task-odd : (ts : List Token) (e : LineFault) → task_words ts ≡ Err e → e ≡ OddLine
task-odd [] e q = sym (err-same q)
task-odd (a ∷ []) e q = sym (err-same q)
task-odd (a ∷ b ∷ []) e q = sym (err-same q)
task-odd (a ∷ b ∷ c ∷ []) e q = sym (err-same q)
task-odd (a ∷ b ∷ c ∷ d ∷ []) e q = sym (err-same q)
task-odd (a ∷ b ∷ c ∷ d ∷ x ∷ []) e q = sym (err-same q)
task-odd (a ∷ b ∷ c ∷ d ∷ x ∷ y ∷ []) e q = ok-err q
task-odd (a ∷ b ∷ c ∷ d ∷ x ∷ y ∷ z ∷ ts) e q = sym (err-same q)

pair-odd : (ts : List Token) (e : LineFault) → pair_words ts ≡ Err e → e ≡ OddLine
pair-odd [] e q = sym (err-same q)
pair-odd (a ∷ []) e q = sym (err-same q)
pair-odd (a ∷ b ∷ []) e q = ok-err q
pair-odd (a ∷ b ∷ c ∷ ts) e q = sym (err-same q)

next-odd : {A B : Type 0} (r : Result A LineFault) (k : A → B) (e : LineFault) → ((f : LineFault) → r ≡ Err f → f ≡ OddLine) → next r (λ a. Ok (k a)) ≡ Err e → e ≡ OddLine
next-odd (Ok a) k e h q = ok-err q
next-odd (Err f) k e h q = sym (err-same q) ∙ h f refl

-- a line without a form is odd
form-odd : (ps : List Token) (e : LineFault) → form ps ≡ Err e → e ≡ OddLine
form-odd [] e q = ok-err q
form-odd (remark s ∷ ts) e q = ok-err q
form-odd (number s v ∷ ts) e q = sym (err-same q)
form-odd (word s ∷ ts) e q =
    (elim (bytes_eq s.bytes (codes "task")) as (λ b. cond b (next (task_words ts) (λ w. Ok (task w))) (cond (bytes_eq s.bytes (codes "noleak")) (next (pair_words ts) (λ w. Ok (noleak w))) (Err OddLine)) ≡ Err e → e ≡ OddLine) [
      | true ↦ λ q. next-odd (task_words ts) task e (task-odd ts) q
      | false ↦ elim (bytes_eq s.bytes (codes "noleak")) as (λ b. cond b (next (pair_words ts) (λ w. Ok (noleak w))) (Err OddLine) ≡ Err e → e ≡ OddLine) [
        | true ↦ λ q. next-odd (pair_words ts) noleak e (pair-odd ts) q
        | false ↦ λ q. sym (err-same q)
      ]
    ]) q

form-verdict : (text : List ℕ) (t : Table) (l : Span) → Stands text l → NoStray l → (f : Result Form LineFault) → form_of l ≡ f → Verdict text t l f (next f (form_read text t))
form-verdict text t l h ns (Err e) q = subst (FirstOf text t l (Err e)) (sym (form-odd (pieces l.place l.bytes) e q)) (first-odd-line text t l e ns)
form-verdict text t l h ns (Ok skipped) q = (none-skipped text t l ns, refl)
form-verdict text t l h ns (Ok (task w)) q =
    let f = task-fine text l w h q in
    subst (Verdict text t l (Ok (task w))) (sym (task-checked text t w f))
    (task-verdict text t l w f ns (first_wrong (checks (task w))) refl (find_from text 0 t.tasks (bytes w.name)) (find-tells text 0 t.tasks (bytes w.name)) (ltb (count t) 16) refl (lawful (figures_said w)) refl)
form-verdict text t l h ns (Ok (noleak w)) q =
    let f = pair-fine text l w h q in
    subst (Verdict text t l (Ok (noleak w))) (sym (pair-checked text t w f))
    (pair-verdict text t l w f ns (first_wrong (checks (noleak w))) refl (find_from text 0 t.tasks (bytes w.from)) refl (find-tells text 0 t.tasks (bytes w.from)) (find_from text 0 t.tasks (bytes w.to)) refl (find-tells text 0 t.tasks (bytes w.to)))

pub line-verdict : (text : List ℕ) (t : Table) (l : Span) → Stands text l → Verdict text t l (form_of l) (line_read text t l)
line-verdict text t l h =
    (elim (eqb (prefix_len (has Printable) l.bytes) (length l.bytes)) as (λ b. eqb (prefix_len (has Printable) l.bytes) (length l.bytes) ≡ b → Verdict text t l (form_of l) (next (cond b (Ok tt) (Err (StrayByte (l.place + prefix_len (has Printable) l.bytes)))) (λ _. next (form_of l) (form_read text t)))) [
      | true ↦ λ e. form-verdict text t l h (no_stray l e) (form_of l) refl
      | false ↦ λ e. first-stray text t l (form_of l) e
    ]) refl
