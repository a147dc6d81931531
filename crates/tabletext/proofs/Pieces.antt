-- What is known of the pieces of a line.
use Rattle.std.proofs.Common.{◌≡◌, ℕ, ◌<◌, true, false, cond, ◌⊎◌, List, [], ◌∷◌, map, length, Ok, Err, codes, sym, refl, ap, ◌∙◌, subst, inl, inr, ⊎_elim, arith}
use Rattle.std.specs.List.{AllByRecursion}
use Rattle.std.specs.Str.{bytes_eq}
use Rattle.std.proofs.lemmas.Bool.Decides.{nat_tests}
use Rattle.textparts.specs.declared.bytes.Class.TheVariants.{Digit}
use Rattle.textparts.specs.Bytes.{has, each}
use Rattle.textparts.specs.Laws.{Stands}
use Rattle.textparts.specs.Shapes.{is_name, is_number, worth}
use Rattle.textparts.specs.Spans.{Span, words}
use Rattle.textparts.specs.Tokens.{Token, word, number, remark, span, told, pieces}
use Rattle.textparts.proofs.Order.{Rising, words-rise, line-words-stand, remark-or-words}
use Rattle.textparts.proofs.Runs.{each_at}
use Rattle.tabletext.specs.declared.fault.LineFault.TheVariants.{OddLine, OddWord}
use Rattle.tabletext.specs.Faulty.{bytes, place, form_of}
use Rattle.tabletext.specs.Forms.{TaskWords, PairWords, skipped, task, noleak, task_words, pair_words, form, next}
use Rattle.tabletext.specs.Words.{name_word, number_word}
use Rattle.tabletext.proofs.Answer.{err-ok, ok_same, next-ok}

-- no number is a name
pub number-no-name : (bs : List ℕ) → is_number bs ≡ true → is_name bs ≡ false
number-no-name bs e =
    let some : 0 < length bs = grind (arith, nat_tests) in
    let digits : each (has Digit) bs ≡ true = grind (arith, nat_tests) in
    let first = each_at (has Digit) bs 0 0 digits some in
    grind (arith, nat_tests)

-- a piece is read as its bytes say
pub record Honest (w : Token) : Type 0 where
  pub name : name_word w ≡ cond (is_name (bytes w)) (Ok (span w)) (Err (OddWord (place w)))
  pub number : number_word w ≡ cond (is_number (bytes w)) (Ok (worth 0 (bytes w))) (Err (OddWord (place w)))

pub told-honest : (s : Span) → Honest (told s)
told-honest s =
    (elim (is_number s.bytes) as (λ v. is_number s.bytes ≡ v → Honest (cond v (number s (worth 0 s.bytes)) (word s))) [
      | true ↦ λ e. record { name = ap (λ v. cond v (Ok s) (Err (OddWord s.place))) (sym (number-no-name s.bytes e)); number = ap (λ v. cond v (Ok (worth 0 s.bytes)) (Err (OddWord s.place))) (sym e) }
      | false ↦ λ e. record { name = refl; number = ap (λ v. cond v (Ok (worth 0 s.bytes)) (Err (OddWord s.place))) (sym e) }
    ]) refl

span-told : (s : Span) → span (told s) ≡ s
span-told s = elim (is_number s.bytes) as (λ v. span (cond v (number s (worth 0 s.bytes)) (word s)) ≡ s) [ true ↦ refl | false ↦ refl ]

-- pieces that are honest words of the text, in rising order
pub record Fine (text : List ℕ) (ts : List Token) : Type 0 where
  pub honest : AllByRecursion Honest ts
  pub rise : Rising (map span ts)
  pub stand : AllByRecursion (Stands text) (map span ts)

all-honest : (ws : List Span) → AllByRecursion Honest (map told ws)
all-honest [] = tt
all-honest (w ∷ ws) = (told-honest w, all-honest ws)

spans-told : (ws : List Span) → ws ≡ map span (map told ws)
spans-told [] = refl
spans-told (w ∷ ws) = ap (λ s. s ∷ ws) (sym (span-told w)) ∙ ap (λ ss. span (told w) ∷ ss) (spans-told ws)

fine-words : (text : List ℕ) (ws : List Span) → Rising ws → AllByRecursion (Stands text) ws → Fine text (map told ws)
fine-words text ws r s = record { honest = all-honest ws; rise = subst Rising (spans-told ws) r; stand = subst (AllByRecursion (Stands text)) (spans-told ws) s }

-- the pieces of a line of the text are such, or the line is skipped
pub fine-line : (text : List ℕ) (l : Span) → Stands text l → Fine text (pieces l.place l.bytes) ⊎ (form_of l ≡ Ok skipped)
fine-line text l h =
    ⊎_elim
    (λ r. inr (ap form r.1))
    (λ e. inl (subst (Fine text) (sym e) (fine-words text (words l.place l.bytes) (words-rise l.place l.bytes) (line-words-stand text l h))))
    (remark-or-words l.place l.bytes)

fine-tail : (text : List ℕ) (t : Token) (ts : List Token) → Fine text (t ∷ ts) → Fine text ts
fine-tail text t ts f = record { honest = f.honest.1; rise = f.rise.1; stand = f.stand.1 }

-- which pieces a task line has
abbrev pub six_of : TaskWords → List Token
six_of w = w.name ∷ w.period ∷ w.budget ∷ w.deadline ∷ w.ways ∷ w.kind ∷ []

abbrev pub two_of : PairWords → List Token
two_of w = w.from ∷ w.to ∷ []

six-words : (ts : List Token) (w : TaskWords) → task_words ts ≡ Ok w → ts ≡ six_of w
six-words [] w e = err-ok e
six-words (a ∷ []) w e = err-ok e
six-words (a ∷ b ∷ []) w e = err-ok e
six-words (a ∷ b ∷ c ∷ []) w e = err-ok e
six-words (a ∷ b ∷ c ∷ d ∷ []) w e = err-ok e
six-words (a ∷ b ∷ c ∷ d ∷ x ∷ []) w e = err-ok e
six-words (a ∷ b ∷ c ∷ d ∷ x ∷ f ∷ []) w e = ap six_of (ok_same e)
six-words (a ∷ b ∷ c ∷ d ∷ x ∷ f ∷ g ∷ ts) w e = err-ok e

two-words : (ts : List Token) (w : PairWords) → pair_words ts ≡ Ok w → ts ≡ two_of w
two-words [] w e = err-ok e
two-words (a ∷ []) w e = err-ok e
two-words (a ∷ b ∷ []) w e = ap two_of (ok_same e)
two-words (a ∷ b ∷ c ∷ ts) w e = err-ok e

-- the pieces after the first, where the form is a task line's
task-form : (ps : List Token) (w : TaskWords) → form ps ≡ Ok (task w) → (h : Token) × (ts : List Token) × (ps ≡ h ∷ ts) × (task_words ts ≡ Ok w)
task-form [] w e = absurd cc
task-form (remark s ∷ ts) w e = absurd cc
task-form (number s v ∷ ts) w e = err-ok e
task-form (word s ∷ ts) w e =
    (elim (bytes_eq s.bytes (codes "task")) as (λ b. cond b (next (task_words ts) (λ w. Ok (task w))) (cond (bytes_eq s.bytes (codes "noleak")) (next (pair_words ts) (λ w. Ok (noleak w))) (Err OddLine)) ≡ Ok (task w) → (h : Token) × (us : List Token) × (word s ∷ ts ≡ h ∷ us) × (task_words us ≡ Ok w)) [
      | true ↦ λ q. let x = next-ok (task_words ts) (λ w. Ok (task w)) (task w) q in (word s, ts, refl, cc)
      | false ↦ elim (bytes_eq s.bytes (codes "noleak")) as (λ b. cond b (next (pair_words ts) (λ w. Ok (noleak w))) (Err OddLine) ≡ Ok (task w) → (h : Token) × (us : List Token) × (word s ∷ ts ≡ h ∷ us) × (task_words us ≡ Ok w)) [
        | true ↦ λ q. let x = next-ok (pair_words ts) (λ w. Ok (noleak w)) (task w) q in absurd cc
        | false ↦ λ q. err-ok q
      ]
    ]) e

pair-form : (ps : List Token) (w : PairWords) → form ps ≡ Ok (noleak w) → (h : Token) × (ts : List Token) × (ps ≡ h ∷ ts) × (pair_words ts ≡ Ok w)
pair-form [] w e = absurd cc
pair-form (remark s ∷ ts) w e = absurd cc
pair-form (number s v ∷ ts) w e = err-ok e
pair-form (word s ∷ ts) w e =
    (elim (bytes_eq s.bytes (codes "task")) as (λ b. cond b (next (task_words ts) (λ w. Ok (task w))) (cond (bytes_eq s.bytes (codes "noleak")) (next (pair_words ts) (λ w. Ok (noleak w))) (Err OddLine)) ≡ Ok (noleak w) → (h : Token) × (us : List Token) × (word s ∷ ts ≡ h ∷ us) × (pair_words us ≡ Ok w)) [
      | true ↦ λ q. let x = next-ok (task_words ts) (λ w. Ok (task w)) (noleak w) q in absurd cc
      | false ↦ elim (bytes_eq s.bytes (codes "noleak")) as (λ b. cond b (next (pair_words ts) (λ w. Ok (noleak w))) (Err OddLine) ≡ Ok (noleak w) → (h : Token) × (us : List Token) × (word s ∷ ts ≡ h ∷ us) × (pair_words us ≡ Ok w)) [
        | true ↦ λ q. let x = next-ok (pair_words ts) (λ w. Ok (noleak w)) (noleak w) q in (word s, ts, refl, cc)
        | false ↦ λ q. err-ok q
      ]
    ]) e

-- the words of a task line of the text
pub task-fine : (text : List ℕ) (l : Span) (w : TaskWords) → Stands text l → form_of l ≡ Ok (task w) → Fine text (six_of w)
task-fine text l w h e =
    let x = task-form (pieces l.place l.bytes) w e in
    ⊎_elim
    (λ f. subst (Fine text) (six-words x.1 w x.3) (fine-tail text x.0 x.1 (subst (Fine text) x.2 f)))
    (λ s. absurd cc)
    (fine-line text l h)

-- and of a noleak line
pub pair-fine : (text : List ℕ) (l : Span) (w : PairWords) → Stands text l → form_of l ≡ Ok (noleak w) → Fine text (two_of w)
pair-fine text l w h e =
    let x = pair-form (pieces l.place l.bytes) w e in
    ⊎_elim
    (λ f. subst (Fine text) (two-words x.1 w x.3) (fine-tail text x.0 x.1 (subst (Fine text) x.2 f)))
    (λ s. absurd cc)
    (fine-line text l h)
