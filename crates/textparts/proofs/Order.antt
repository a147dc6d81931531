-- That lines and words stand in the text, in rising order, and that a line is a remark or its words.
use Rattle.std.proofs.Common.{◌≡◌, ℕ, suc, ◌+◌, ◌<◌, true, false, cond, not, eqb, ◌⊎◌, List, [], ◌∷◌, map, length, get_or, take, drop, sym, refl, ap, ◌∙◌, subst, inl, inr, arith}
use Rattle.std.specs.List.{AllByRecursion}
use Rattle.std.proofs.lemmas.List.{drop_more}
use Rattle.textparts.specs.declared.bytes.Class.TheVariants.{InLine, Space}
use Rattle.textparts.specs.Bytes.{has}
use Rattle.textparts.specs.Laws.{Stands}
use Rattle.textparts.specs.Spans.{Span, at, longer, lines, begins, words}
use Rattle.textparts.specs.Tokens.{remark, told, pieces}

abbrev tail : {A : Type 0} → List A → List A
tail [] = []
tail (x ∷ xs) = xs

abbrev head : List ℕ → ℕ
head [] = 0
head (x ∷ xs) = x

-- a byte less at the front
shift : (t : List ℕ) (p b : ℕ) (bs : List ℕ) → Stands t (at p (b ∷ bs)) → (drop p t ≡ b ∷ drop (p + 1) t) × Stands t (at (p + 1) bs)
shift t p b bs h =
    let more : drop p t ≡ get_or t p 0 ∷ drop (p + 1) t = drop_more t p 0 (omega (arith, h.within)) in
    let both : get_or t p 0 ∷ take (length bs) (drop (p + 1) t) ≡ b ∷ bs = ap (take (suc (length bs))) (sym more) ∙ h.same in
    (more ∙ ap (λ x. x ∷ drop (p + 1) t) (ap head both), record { within = omega (arith, h.within); same = ap tail both })

-- a byte more
grow : (t : List ℕ) (p b : ℕ) (bs : List ℕ) → drop p t ≡ b ∷ drop (p + 1) t → Stands t (at (p + 1) bs) → Stands t (at p (b ∷ bs))
grow t p b bs e h = record { within = omega (arith, h.within); same = ap (take (suc (length bs))) e ∙ ap (λ xs. b ∷ xs) h.same }

-- the first span, if there is one, begins at p
abbrev HeadAt : ℕ → List Span → Type 0
HeadAt p [] = Unit {0}
HeadAt p (s ∷ ss) = s.place ≡ p

longer-stand : (t : List ℕ) (p b : ℕ) (ss : List Span) → drop p t ≡ b ∷ drop (p + 1) t → p < length t → HeadAt (p + 1) ss → AllByRecursion (Stands t) ss → AllByRecursion (Stands t) (longer p b ss)
longer-stand t p b [] e lt h k = (record { within = omega arith; same = ap (take 1) e }, tt)
longer-stand t p b (s ∷ ss) e lt h k = (grow t p b s.bytes e (subst (λ q. Stands t (at q s.bytes)) h k.0), k.1)

longer-head : (p b : ℕ) (ss : List Span) → HeadAt p (longer p b ss)
longer-head p b [] = refl
longer-head p b (s ∷ ss) = refl

lines-head : (p : ℕ) (xs : List ℕ) → HeadAt p (lines p xs)
lines-head p [] = tt
lines-head p (b ∷ bs) = elim (has InLine b) as (λ v. HeadAt p (cond v (longer p b (lines (p + 1) bs)) (at p [] ∷ lines (p + 1) bs))) [ true ↦ longer-head p b (lines (p + 1) bs) | false ↦ refl ]

pub lines-stand : (t : List ℕ) (p : ℕ) (xs : List ℕ) → Stands t (at p xs) → AllByRecursion (Stands t) (lines p xs)
lines-stand t p [] h = tt
lines-stand t p (b ∷ bs) h =
    let s = shift t p b bs h in
    let rest = lines-stand t (p + 1) bs s.1 in
    elim (has InLine b) as (λ v. AllByRecursion (Stands t) (cond v (longer p b (lines (p + 1) bs)) (at p [] ∷ lines (p + 1) bs))) [
      | true ↦ longer-stand t p b (lines (p + 1) bs) s.0 (omega (arith, h.within)) (lines-head (p + 1) bs) rest
      | false ↦ (record { within = omega (arith, h.within); same = refl }, rest)
    ]

words-head : (p : ℕ) (xs : List ℕ) → begins xs ≡ true → HeadAt p (words p xs)
words-head p [] e = tt
words-head p (b ∷ bs) e =
    (elim (has Space b) as (λ v. not v ≡ true → HeadAt p (cond v (words (p + 1) bs) (cond (begins bs) (longer p b (words (p + 1) bs)) (at p (b ∷ []) ∷ words (p + 1) bs)))) [
      | true ↦ λ i. let z : ◌≡◌ {A = ℕ} 0 1 = cc in absurd (omega arith)
      | false ↦ λ i. elim (begins bs) as (λ v. HeadAt p (cond v (longer p b (words (p + 1) bs)) (at p (b ∷ []) ∷ words (p + 1) bs))) [ true ↦ longer-head p b (words (p + 1) bs) | false ↦ refl ]
    ]) e

pub words-stand : (t : List ℕ) (p : ℕ) (xs : List ℕ) → Stands t (at p xs) → AllByRecursion (Stands t) (words p xs)
words-stand t p [] h = tt
words-stand t p (b ∷ bs) h =
    let s = shift t p b bs h in
    let W = words (p + 1) bs in
    let rest = words-stand t (p + 1) bs s.1 in
    elim (has Space b) as (λ v. AllByRecursion (Stands t) (cond v W (cond (begins bs) (longer p b W) (at p (b ∷ []) ∷ W)))) [
      | true ↦ rest
      | false ↦ (elim (begins bs) as (λ v. begins bs ≡ v → AllByRecursion (Stands t) (cond v (longer p b W) (at p (b ∷ []) ∷ W))) [
        | true ↦ λ e. longer-stand t p b W s.0 (omega (arith, h.within)) (words-head (p + 1) bs e) rest
        | false ↦ λ e. (record { within = omega (arith, h.within); same = ap (take 1) s.0 }, rest)
      ]) refl
    ]

-- the words of a line of the text stand in it
pub line-words-stand : (t : List ℕ) (l : Span) → Stands t l → AllByRecursion (Stands t) (words l.place l.bytes)
line-words-stand t l h = words-stand t l.place l.bytes h

-- the lines of a text stand in it
pub text-lines-stand : (t : List ℕ) → AllByRecursion (Stands t) (lines 0 t)
text-lines-stand t = lines-stand t 0 t (record { within = omega arith; same = all t })
  where
    all : (xs : List ℕ) → take (length xs) xs ≡ xs
    all [] = refl
    all (x ∷ xs) = ap (λ ys. x ∷ ys) (all xs)

-- every span begins past place p
abbrev pub Past : ℕ → List Span → Type 0
Past p ss = AllByRecursion (λ s. p < s.place) ss

-- each span begins past those before it
abbrev pub Rising : List Span → Type 0
Rising [] = Unit {0}
Rising (s ∷ ss) = Past s.place ss × Rising ss

-- no word begins before the bytes do
from-words : (p q : ℕ) (xs : List ℕ) → p < q → Past p (words q xs)
from-words p q [] h = tt
from-words p q (b ∷ bs) h =
    let W = words (q + 1) bs in
    let rest = from-words p (q + 1) bs (omega arith) in
    elim (has Space b) as (λ v. Past p (cond v W (cond (begins bs) (longer q b W) (at q (b ∷ []) ∷ W)))) [
      | true ↦ rest
      | false ↦ elim (begins bs) as (λ v. Past p (cond v (longer q b W) (at q (b ∷ []) ∷ W))) [ true ↦ longer-past W rest | false ↦ (h, rest) ]
    ]
  where
    longer-past : (ss : List Span) → Past p ss → Past p (longer q b ss)
    longer-past [] k = (h, tt)
    longer-past (s ∷ ss) k = (h, k.1)

longer-rise : (p b : ℕ) (ss : List Span) → Past p ss → Rising ss → Rising (longer p b ss)
longer-rise p b [] h k = (tt, tt)
longer-rise p b (s ∷ ss) h k = (h.1, k.1)

pub words-rise : (p : ℕ) (xs : List ℕ) → Rising (words p xs)
words-rise p [] = tt
words-rise p (b ∷ bs) =
    let W = words (p + 1) bs in
    let rest = words-rise (p + 1) bs in
    let far = from-words p (p + 1) bs (omega arith) in
    elim (has Space b) as (λ v. Rising (cond v W (cond (begins bs) (longer p b W) (at p (b ∷ []) ∷ W)))) [
      | true ↦ rest
      | false ↦ elim (begins bs) as (λ v. Rising (cond v (longer p b W) (at p (b ∷ []) ∷ W))) [ true ↦ longer-rise p b W far rest | false ↦ (far, rest) ]
    ]

-- a line is a remark, or its words
pub remark-or-words : (p : ℕ) (xs : List ℕ) → ((s : Span) × (pieces p xs ≡ remark s ∷ [])) ⊎ (pieces p xs ≡ map told (words p xs))
remark-or-words p [] = inr refl
remark-or-words p (b ∷ bs) =
    elim (has Space b) as (λ v. ((s : Span) × (cond v (pieces (p + 1) bs) (cond (eqb b 35) (remark (at p (b ∷ bs)) ∷ []) (map told (cond v (words (p + 1) bs) (cond (begins bs) (longer p b (words (p + 1) bs)) (at p (b ∷ []) ∷ words (p + 1) bs))))) ≡ remark s ∷ [])) ⊎
    (cond v (pieces (p + 1) bs) (cond (eqb b 35) (remark (at p (b ∷ bs)) ∷ []) (map told (cond v (words (p + 1) bs) (cond (begins bs) (longer p b (words (p + 1) bs)) (at p (b ∷ []) ∷ words (p + 1) bs))))) ≡ map told (cond v (words (p + 1) bs) (cond (begins bs) (longer p b (words (p + 1) bs)) (at p (b ∷ []) ∷ words (p + 1) bs))))) [
      | true ↦ remark-or-words (p + 1) bs
      | false ↦ elim (eqb b 35) as (λ v. ((s : Span) × (cond v (remark (at p (b ∷ bs)) ∷ []) (map told (cond (begins bs) (longer p b (words (p + 1) bs)) (at p (b ∷ []) ∷ words (p + 1) bs))) ≡ remark s ∷ [])) ⊎
          (cond v (remark (at p (b ∷ bs)) ∷ []) (map told (cond (begins bs) (longer p b (words (p + 1) bs)) (at p (b ∷ []) ∷ words (p + 1) bs))) ≡ map told (cond (begins bs) (longer p b (words (p + 1) bs)) (at p (b ∷ []) ∷ words (p + 1) bs)))) [
            | true ↦ inl (at p (b ∷ bs), refl)
            | false ↦ inr refl
          ]
    ]
