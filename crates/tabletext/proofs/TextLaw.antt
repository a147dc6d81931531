-- Reading a text reports its first fault, or leaves what its lines say.
use Rattle.std.proofs.Common.{◌≡◌, ℕ, ◌+◌, ◌<◌, ◌≤◌, Bool, true, false, cond, ◌&&◌, ◌||◌, eqb, leb, List, [], ◌∷◌, ◌++◌, map, length, take, drop, Some, None, Ok, Err, Option, Result, unwrap_or, sym, refl, ap, ◌∙◌, subst, inl, inr, ⊎_elim, append_assoc, append-nil, arith}
use Rattle.std.specs.List.{flat_map, AllByRecursion}
use Rattle.std.proofs.ByRecursion.{All-append}
use Rattle.std.proofs.lemmas.List.{map-append}
use Rattle.std.proofs.lemmas.Bool.Decides.{nat_tests, eqb_tells}
use Rattle.std.proofs.str.Laws.{order}
use Rattle.refusal.specs.Outcome.{after, answered}
use Rattle.taskset.specs.declared.task.Task.{Task}
use Rattle.sets.specs.Sets.{has, in_range, nobody}
use Rattle.sets.proofs.Members.{member-zero}
use Rattle.taskset.specs.declared.fault.DraftFault.TheVariants.{FullTable, WildFigure, Itself}
use Rattle.taskset.specs.Figures.{lawful}
use Rattle.taskset.specs.Table as T
use Rattle.taskset.specs.Table.{Table, IsLawful, nothing, count, name_in}
use Rattle.taskset.proofs.Tables.{noleak-task, noleak-pair, lawful-task, lawful-pair}
use Rattle.textparts.specs.Laws.{Stands}
use Rattle.textparts.specs.Shapes.{is_name}
use Rattle.textparts.specs.Spans.{Span, lines}
use Rattle.textparts.specs.Tokens.{span}
use Rattle.textparts.proofs.Order.{text-lines-stand}
use Rattle.tabletext.specs.declared.fault.FaultAt.{FaultAt}
use Rattle.tabletext.specs.declared.fault.LineFault.{LineFault}
use Rattle.tabletext.specs.declared.fault.LineFault.TheVariants.{OddWord, TwiceNamed, Unnamed, Draft}
use Rattle.tabletext.specs.declared.fault.TextFault.{TextFault}
use Rattle.tabletext.specs.declared.fault.TextFault.TheVariants.{LongText, Line}
use Rattle.tabletext.specs.Faulty.{bytes, place, named, figures_said, task_said, form_of, FirstOf, NoneOf, number_of, said_by, said}
use Rattle.tabletext.specs.Forms.{TaskWords, PairWords, Form, skipped, task, noleak}
use Rattle.tabletext.specs.Laws.{all_said, Faultless, task_in, name_of_line, is_named, says_pair, some_line, WellNamed, ReadWell, ReadLaws}
use Rattle.tabletext.specs.Lines.{find_from, line_read}
use Rattle.tabletext.specs.Read.{onward, read_lines, read_text}
use Rattle.sets.proofs.Below.{bool_tells}
use Rattle.tabletext.proofs.Answer.{both}
use Rattle.tabletext.proofs.LineLaw.{Verdict, line-verdict}
use Rattle.tabletext.proofs.Names.{Found, find-tells, one_name, named-listed, Apart, apart-push, named-before, only_one}
use Rattle.tabletext.proofs.Pieces.{task-fine}

-- the first fault of some lines, after a table
record FirstFrom (text : List ℕ) (t : Table) (ls : List Span) (at : FaultAt) : Type 0 where
  before : List Span
  line : Span
  after : List Span
  order : ls ≡ before ++ line ∷ after
  earlier : Faultless text t before
  place : at.place ≡ line.place
  first : FirstOf text (all_said text t before) line (form_of line) at.fault

abbrev LinesVerdict : List ℕ → Table → List Span → Result Table TextFault → Type 0
LinesVerdict text t ls (Ok u) = Faultless text t ls × (u ≡ all_said text t ls)
LinesVerdict text t ls (Err LongText) = ⊥
LinesVerdict text t ls (Err (Line at)) = FirstFrom text t ls at

-- a faultless line in front
extend : (text : List ℕ) (t : Table) (l : Span) (ls : List Span) (r : Result Table TextFault) → NoneOf text t l (form_of l) → LinesVerdict text (said text t l) ls r → LinesVerdict text t (l ∷ ls) r
extend text t l ls (Ok u) n v = ((n, v.0), v.1)
extend text t l ls (Err LongText) n v = v
extend text t l ls (Err (Line at)) n v = record { before = l ∷ v.before; line = v.line; after = v.after; order = ap (λ r. l ∷ r) v.order; earlier = (n, v.earlier); place = v.place; first = v.first }

step : (text : List ℕ) (t : Table) (l : Span) (ls : List Span) (r : Result Table LineFault) → Verdict text t l (form_of l) r → ((v : Table) → LinesVerdict text v ls (read_lines text v ls)) → LinesVerdict text t (l ∷ ls) (onward (λ u. read_lines text u ls) l.place r)
step text t l ls (Ok v) d rest = extend text t l ls (read_lines text v ls) d.0 (subst (λ x. LinesVerdict text x ls (read_lines text v ls)) d.1 (rest v))
step text t l ls (Err f) d rest = record { before = []; line = l; after = ls; order = refl; earlier = tt; place = refl; first = d }

lines-verdict : (text : List ℕ) (t : Table) (ls : List Span) → AllByRecursion (Stands text) ls → LinesVerdict text t ls (read_lines text t ls)
lines-verdict text t [] h = (tt, refl)
lines-verdict text t (l ∷ ls) h = step text t l ls (line_read text t l) (line-verdict text t l h.0) (λ v. lines-verdict text v ls h.1)

-- tasks -----------------------------------------------------------------------------------------------------------------------

said-tasks : (text : List ℕ) (t : Table) (f : Result Form LineFault) → (said_by text t f).tasks ≡ t.tasks ++ task_in f
said-tasks text t (Ok skipped) = sym (append-nil t.tasks)
said-tasks text t (Ok (task w)) = refl
said-tasks text t (Ok (noleak w)) = sym (append-nil t.tasks)
said-tasks text t (Err e) = sym (append-nil t.tasks)

abbrev tasks_in : List Span → List Task
tasks_in ls = flat_map (λ l. task_in (form_of l)) ls

all-tasks : (text : List ℕ) (t : Table) (ls : List Span) → (all_said text t ls).tasks ≡ t.tasks ++ tasks_in ls
all-tasks text t [] = sym (append-nil t.tasks)
all-tasks text t (l ∷ ls) = all-tasks text (said text t l) ls ∙ ap (λ ts. ts ++ tasks_in ls) (said-tasks text t (form_of l)) ∙ append_assoc t.tasks (task_in (form_of l)) (tasks_in ls)

-- names -----------------------------------------------------------------------------------------------------------------------

-- a part of the text, asked for as a name
pub name-stands : (text : List ℕ) (s : Span) → Stands text s → name_in text (record { place = s.place; len = length s.bytes }) ≡ s.bytes
unfolding name_in
name-stands text s h =
    let in-text : leb (s.place + length s.bytes) (length text) ≡ true = let w = h.within in grind (arith, nat_tests) in
    ap (λ b. cond b (take (length s.bytes) (drop s.place text)) []) in-text ∙ h.same

line-name : (text : List ℕ) (l : Span) → Stands text l → (f : Result Form LineFault) → form_of l ≡ f → map (λ t. name_in text t.name) (task_in f) ≡ name_of_line f
line-name text l h (Ok skipped) e = refl
line-name text l h (Ok (task w)) e = ap (λ n. n ∷ []) (name-stands text (span w.name) (task-fine text l w h e).stand.0)
line-name text l h (Ok (noleak w)) e = refl
line-name text l h (Err x) e = refl

all-names : (text : List ℕ) (ls : List Span) → AllByRecursion (Stands text) ls → map (λ t. name_in text t.name) (tasks_in ls) ≡ flat_map (λ l. name_of_line (form_of l)) ls
all-names text [] h = refl
all-names text (l ∷ ls) h =
    map-append (λ t. name_in text t.name) (task_in (form_of l)) (tasks_in ls)
    ∙ ap (λ ns. ns ++ map (λ t. name_in text t.name) (tasks_in ls)) (line-name text l h.0 (form_of l) refl)
    ∙ ap (λ ns. name_of_line (form_of l) ++ ns) (all-names text ls h.1)

-- the name of a faultless task line
well-named : (text : List ℕ) (t : Table) (l : Span) (w : TaskWords) → Stands text l → form_of l ≡ Ok (task w) → NoneOf text t l (Ok (task w)) → WellNamed text (task_said w)
well-named text t l w h e none =
    let s = (task-fine text l w h e).stand.0 in
    let is = name-stands text (span w.name) s in
    let shape : is_name (bytes w.name) ≡ true = ⊎_elim (λ y. y) (λ n. absurd (none (OddWord (place w.name)) (inl (refl, n)))) (bool_tells (is_name (bytes w.name))) in
    record {
      within = s.within;
      some = grind (arith, nat_tests);
      few = grind (arith, nat_tests);
      length = ap length is;
      shape = ap is_name is ∙ shape;
    }

line-well : (text : List ℕ) (t : Table) (l : Span) → Stands text l → (f : Result Form LineFault) → form_of l ≡ f → NoneOf text t l f → AllByRecursion (WellNamed text) (task_in f)
line-well text t l h (Ok skipped) e n = tt
line-well text t l h (Ok (task w)) e n = (well-named text t l w h e n, tt)
line-well text t l h (Ok (noleak w)) e n = tt
line-well text t l h (Err x) e n = tt

all-well : (text : List ℕ) (t : Table) (ls : List Span) → AllByRecursion (Stands text) ls → Faultless text t ls → AllByRecursion (WellNamed text) (tasks_in ls)
all-well text t [] h f = tt
all-well text t (l ∷ ls) h f = All-append (WellNamed text) (task_in (form_of l)) (tasks_in ls) (line-well text t l h.0 (form_of l) refl f.0) (all-well text (said text t l) ls h.1 f.1)

-- no name twice
line-apart : (text : List ℕ) (t : Table) (l : Span) → Stands text l → (f : Result Form LineFault) → form_of l ≡ f → NoneOf text t l f → Apart text t.tasks → Apart text (said_by text t f).tasks
line-apart text t l h (Ok skipped) e n a = a
line-apart text t l h (Ok (task w)) e n a =
    let is = name-stands text (span w.name) (task-fine text l w h e).stand.0 in
    let free : named text t.tasks (bytes w.name) ≡ false = ⊎_elim (λ y. absurd (n (TwiceNamed (place w.name)) (refl, y))) (λ y. y) (bool_tells (named text t.tasks (bytes w.name))) in
    apart-push text t.tasks (task_said w) a (ap (named text t.tasks) is ∙ free)
line-apart text t l h (Ok (noleak w)) e n a = a
line-apart text t l h (Err x) e n a = a

all_apart : (text : List ℕ) (t : Table) (ls : List Span) → AllByRecursion (Stands text) ls → Faultless text t ls → Apart text t.tasks → Apart text (all_said text t ls).tasks
all_apart text t [] h f a = a
all_apart text t (l ∷ ls) h f a = all_apart text (said text t l) ls h.1 f.1 (line-apart text t l h.0 (form_of l) refl f.0 a)

-- pairs -----------------------------------------------------------------------------------------------------------------------

or-more : (x y z : Bool) → ((x || y) || z) ≡ (x || (y || z))
or-more true y z = refl
or-more false y z = refl

or-false : (x : Bool) → x ≡ (x || false)
or-false true = refl
or-false false = refl

and-false : (x : Bool) → (x && false) ≡ false
and-false true = refl
and-false false = refl

-- the number of a task that is named
number-named : (text : List ℕ) (t : Table) (n : List ℕ) → named text t.tasks n ≡ true → (o : Option ℕ) → Found text 0 t.tasks n o → is_named text t.tasks (unwrap_or o 0) n ≡ true
number-named text t n e None f = both _ e f
number-named text t n e (Some a) f = let q : a ≡ f.1.0 = omega (arith, f.1.1) in ap (λ j. is_named text t.tasks j n) q ∙ f.1.3

-- FROM and TO of a faultless noleak line are the names of tasks
pair-named : (text : List ℕ) (t : Table) (l : Span) (w : PairWords) → NoneOf text t l (Ok (noleak w)) →
    (is_named text t.tasks (number_of text t (bytes w.from)) (bytes w.from) ≡ true) × (is_named text t.tasks (number_of text t (bytes w.to)) (bytes w.to) ≡ true)
pair-named text t l w n =
    let from = bytes w.from in
    let to = bytes w.to in
    let x : named text t.tasks from ≡ true = ⊎_elim (λ y. y) (λ y. absurd (n (Unnamed (place w.from)) (inl (refl, y)))) (bool_tells (named text t.tasks from)) in
    let z : named text t.tasks to ≡ true = ⊎_elim (λ y. y) (λ y. absurd (n (Unnamed (place w.to)) (inr (refl, y)))) (bool_tells (named text t.tasks to)) in
    (number-named text t from x (find_from text 0 t.tasks from) (find-tells text 0 t.tasks from), number-named text t to z (find_from text 0 t.tasks to) (find-tells text 0 t.tasks to))

-- a faultless line leaves the table lawful
line-lawful : (text : List ℕ) (t : Table) (l : Span) (f : Result Form LineFault) → IsLawful t → NoneOf text t l f → IsLawful (said_by text t f)
line-lawful text t l (Ok skipped) h n = h
line-lawful text t l (Ok (task w)) h n =
    let room : count t < 16 = ⊎_elim (λ lt. lt) (λ ge. absurd (n (Draft FullTable) ge)) (order (count t) 16) in
    let ok : lawful (figures_said w) ≡ true = ⊎_elim (λ y. y) (λ y. absurd (n (Draft WildFigure) y)) (bool_tells (lawful (figures_said w))) in
    lawful-task t (task_said w) h room ok
line-lawful text t l (Ok (noleak w)) h n =
    let ts = t.tasks in
    let from = number_of text t (bytes w.from) in
    let to = number_of text t (bytes w.to) in
    let p = pair-named text t l w n in
    let two : eqb from to ≡ false = ⊎_elim
    (λ e. absurd (n (Draft Itself) (one_name text ts from (bytes w.from) (bytes w.to) p.0 (ap (λ j. is_named text ts j (bytes w.to)) e.1 ∙ p.1))))
    (λ e. e.0)
    (eqb_tells from to) in
    lawful-pair t from to h (named-listed text ts from (bytes w.from) p.0) (named-listed text ts to (bytes w.to) p.1) two
line-lawful text t l (Err x) h n = h

line-pairs : (text : List ℕ) (t : Table) (l : Span) (f : Result Form LineFault) (ms : List Task) (k i : ℕ) → IsLawful t → NoneOf text t l f → Apart text (t.tasks ++ ms) → T.noleak (said_by text t f) k i ≡ (T.noleak t k i || says_pair text (t.tasks ++ ms) k i f)
line-pairs text t l (Ok skipped) ms k i h n a = or-false (T.noleak t k i)
line-pairs text t l (Ok (task w)) ms k i h n a = noleak-task t (task_said w) k i ∙ or-false (T.noleak t k i)
line-pairs text t l (Ok (noleak w)) ms k i h n a =
    let ts = t.tasks ++ ms in
    let from = number_of text t (bytes w.from) in
    let to = number_of text t (bytes w.to) in
    let p = pair-named text t l w n in
    let x = named-before text t.tasks ms from (bytes w.from) p.0 in
    let z = named-before text t.tasks ms to (bytes w.to) p.1 in
    noleak-pair t from to h (named-listed text t.tasks from (bytes w.from) p.0) (named-listed text t.tasks to (bytes w.to) p.1) k i
    ∙ ap (λ b. T.noleak t k i || (b && eqb i to)) (only_one text ts (bytes w.from) from k a x)
    ∙ ap (λ b. T.noleak t k i || (is_named text ts k (bytes w.from) && b)) (only_one text ts (bytes w.to) to i a z)
line-pairs text t l (Err x) ms k i h n a = or-false (T.noleak t k i)

all-pairs : (text : List ℕ) (t : Table) (ls : List Span) (us : List Task) (k i : ℕ) → IsLawful t → Faultless text t ls → us ≡ t.tasks ++ tasks_in ls → Apart text us → T.noleak (all_said text t ls) k i ≡ (T.noleak t k i || some_line (λ l. says_pair text us k i (form_of l)) ls)
all-pairs text t [] us k i h f e a = or-false (T.noleak t k i)
all-pairs text t (l ∷ ls) us k i h f e a =
    let here = line-pairs text t l (form_of l) (tasks_in (l ∷ ls)) k i h f.0 (subst (Apart text) e a) in
    let on : us ≡ (said text t l).tasks ++ tasks_in ls = e ∙ sym (append_assoc t.tasks (task_in (form_of l)) (tasks_in ls)) ∙ ap (λ ts. ts ++ tasks_in ls) (sym (said-tasks text t (form_of l))) in
    let rest = all-pairs text (said text t l) ls us k i (line-lawful text t l (form_of l) h f.0) f.1 on a in
    rest
    ∙ ap (λ b. b || some_line (λ m. says_pair text us k i (form_of m)) ls) (here ∙ ap (λ ts. T.noleak t k i || says_pair text ts k i (form_of l)) (sym e))
    ∙ or-more (T.noleak t k i) (says_pair text us k i (form_of l)) (some_line (λ m. says_pair text us k i (form_of m)) ls)

-- no pair stands in the empty table
none-nothing : (k i : ℕ) → T.noleak nothing k i ≡ false
unfolding has nobody
none-nothing k i = ap (λ b. in_range 16 k && b) (member-zero k) ∙ and-false (in_range 16 k)

lawful-nothing : IsLawful nothing
lawful-nothing = record {
  few = omega arith;
  figures = refl;
  places = refl;
  listed = λ k i e. both _ e (none-nothing k i);
  apart = λ i e. both _ e (none-nothing i i);
}

-- the whole text --------------------------------------------------------------------------------------------------------------

read-well : (text : List ℕ) (u : Table) → length text ≤ 8192 → Faultless text nothing (lines 0 text) → u ≡ all_said text nothing (lines 0 text) → ReadWell text u
read-well text u short f e =
    let ls = lines 0 text in
    let stand = text-lines-stand text in
    let v = all_said text nothing ls in
    let tasks : v.tasks ≡ tasks_in ls = all-tasks text nothing ls in
    let apart = all_apart text nothing ls stand f (λ k i n p q. both false q refl) in
    subst (ReadWell text) (sym e) (record {
      short = short;
      faultless = f;
      tasks = tasks;
      names = ap (map (λ t. name_in text t.name)) tasks ∙ all-names text ls stand;
      named = subst (AllByRecursion (WellNamed text)) (sym tasks) (all-well text nothing ls stand f);
      apart = apart;
      pairs = λ k i. all-pairs text nothing ls v.tasks k i lawful-nothing f tasks apart ∙ ap (λ b. b || some_line (λ l. says_pair text v.tasks k i (form_of l)) ls) (none-nothing k i);
    })

lines-laws : (text : List ℕ) (r : Result Table TextFault) → length text ≤ 8192 → LinesVerdict text nothing (lines 0 text) r → ReadLaws text (answered tt r) (after nothing r)
lines-laws text (Ok u) h v = read-well text u h v.0 v.1
lines-laws text (Err LongText) h v = absurd v
lines-laws text (Err (Line at)) h v = (h, record { before = v.before; line = v.line; after = v.after; order = v.order; earlier = v.earlier; place = v.place; first = v.first }, refl)

-- every text is read by the laws
pub text-laws : (text : List ℕ) → ReadLaws text (answered tt (read_text text)) (after nothing (read_text text))
text-laws text =
    (elim (leb (length text) 8192) as (λ b. leb (length text) 8192 ≡ b → ReadLaws text (answered tt (cond b (read_lines text nothing (lines 0 text)) (Err LongText))) (after nothing (cond b (read_lines text nothing (lines 0 text)) (Err LongText)))) [
      | true ↦ λ e. let short : length text ≤ 8192 = grind (arith, nat_tests) in lines-laws text (read_lines text nothing (lines 0 text)) short (lines-verdict text nothing (lines 0 text) (text-lines-stand text))
      | false ↦ λ e. (grind (arith, nat_tests), refl)
    ]) refl
