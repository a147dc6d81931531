-- The steps and laws of a reader at the very bytes that its code cuts out of the text.
use Rattle.std.proofs.Common.{◌≡◌, ℕ, suc, ◌+◌, ◌-◌, ◌<◌, ◌≤◌, true, false, cond, ◌||◌, eqb, leb, List, [], ◌∷◌, map, length, take, drop, sym, refl, ap, ◌∙◌, subst, ⊎_elim, add-zero, one-add, arith, length-drop, length-take-le}
use Rattle.std.specs.List.{prefix_len}
use Rattle.std.proofs.lemmas.Slice.{between_to_end}
use Rattle.std.proofs.lemmas.Bool.Decides.{nat_tests, leb_tells, eqb_tells}
use Rattle.textparts.specs.declared.bytes.Class.TheVariants.{InLine, Space, InWord}
use Rattle.textparts.specs.Bytes.{has, each}
use Rattle.textparts.specs.Spans.{at, lines, words}
use Rattle.textparts.specs.Tokens.{Token, remark, told, pieces, hashed}
use Rattle.textparts.specs.Laws.{ends, gap, opens, closes, LineIn, PieceIn, RemarkIn}
use Rattle.textparts.proofs.Runs.{run-each, each-drop}
use Rattle.textparts.proofs.Steps.{next-line, next_word, no_word, past-spaces, past}
use Rattle.textparts.proofs.Standing.{line-stops, line-in, next-opens, left-past, word-stops, word_in, told_in, remark-in, nothing_left}

-- `&text[p..]`
to_end : (t : List ℕ) (p : ℕ) → take (length t - p) (drop p t) ≡ drop p t
to_end t p = between_to_end t p (length t) (omega arith)

-- what holds of a line that begins at p and is n bytes long
pub line-left : (t : List ℕ) (p n : ℕ) → p < length t → n ≤ length (take (length t - p) (drop p t)) → n ≡ prefix_len (has InLine) (take (length t - p) (drop p t)) → (opens ends t p || leb (length t) p) ≡ true →
    (p + n ≤ length t) × (each (has InLine) (take (p + n - p) (drop p t)) ≡ true) × (closes ends t (p + n) ≡ true) × ((opens gap t p || closes gap t p) ≡ true)
line-left t p n h within e lined =
    let len : n ≡ prefix_len (has InLine) (drop p t) = e ∙ ap (prefix_len (has InLine)) (to_end t p) in
    let off : p + n - p ≡ n = omega arith in
    let open-gap : opens ends t p ≡ true = grind (arith, nat_tests) in (
      omega (arith, ap length (to_end t p), length-drop p t),
      ap (λ k. each (has InLine) (take k (drop p t))) (off ∙ len) ∙ run-each (has InLine) (drop p t),
      line-stops t p n len,
      grind (arith, nat_tests),
    )

-- where the next line begins
pub next-lined : (t : List ℕ) (p n q : ℕ) → closes ends t (p + n) ≡ true → (p + n < length t → q ≡ p + n + 1) → (length t ≤ p + n → q ≡ p + n) → (opens ends t q || leb (length t) q) ≡ true
next-lined t p n q e some none =
    ⊎_elim
    (λ lt. let o = next-opens t (p + n) e lt.1 in let same : opens ends t q ≡ opens ends t (p + n + 1) = ap (opens ends t) (some lt.1) in grind (arith, nat_tests))
    (λ ge. let same = none (omega (arith, ge.1)) in grind (arith, nat_tests))
    (leb_tells (suc (p + n)) (length t))

pub line-found : (t : List ℕ) (p n q : ℕ) → p < length t → n ≡ prefix_len (has InLine) (take (length t - p) (drop p t)) → (p + n < length t → q ≡ p + n + 1) → (length t ≤ p + n → q ≡ p + n) →
    lines p (drop p t) ≡ at p (take (p + n - p) (drop p t)) ∷ lines q (drop q t)
line-found t p n q h e some none =
    let off : n ≡ p + n - p = omega arith in
    next-line t p n q h (e ∙ ap (prefix_len (has InLine)) (to_end t p)) some none ∙ ap (λ k. at p (take k (drop p t)) ∷ lines q (drop q t)) off

pub line-stands : (t : List ℕ) (p n : ℕ) → p < length t → p + n ≤ length t → n ≡ prefix_len (has InLine) (take (length t - p) (drop p t)) → (opens ends t p || leb (length t) p) ≡ true → LineIn t (at p (take (p + n - p) (drop p t)))
line-stands t p n h within e lined =
    let off : n ≡ p + n - p = omega arith in
    let open-here : opens ends t p ≡ true = grind (arith, nat_tests) in
    subst (λ k. LineIn t (at p (take k (drop p t)))) off (line-in t p n within (e ∙ ap (prefix_len (has InLine)) (to_end t p)) open-here)

-- pieces ----------------------------------------------------------------------------------------------------------------------

-- spaces before a piece count for nothing
pieces-past : (p : ℕ) (xs : List ℕ) → pieces p xs ≡ pieces (p + prefix_len (has Space) xs) (drop (prefix_len (has Space) xs) xs)
pieces-past p [] = refl
pieces-past p (b ∷ bs) =
    let n = prefix_len (has Space) bs in
    let q : p + 1 + n ≡ p + (1 + n) = omega arith in
    let at_piece : pieces p (b ∷ bs) ≡ pieces (p + 0) (b ∷ bs) = ap (λ k. pieces k (b ∷ bs)) (sym (add-zero p)) in
    let at-space : has Space b ≡ true → pieces p (b ∷ bs) ≡ pieces (p + (1 + n)) (drop (1 + n) (b ∷ bs)) = λ h. rw h (pieces-past (p + 1) bs ∙ ap (λ k. pieces k (drop n bs)) q ∙ simp one-add) in
    (elim (has Space b) as (λ v. has Space b ≡ v → pieces p (b ∷ bs) ≡ pieces (p + cond v (1 + n) 0) (drop (cond v (1 + n) 0) (b ∷ bs))) [ true ↦ at-space | false ↦ λ h. at_piece ]) refl

-- bytes that begin with `#`
hashed-pieces : (p : ℕ) (xs : List ℕ) → hashed xs ≡ true → pieces p xs ≡ remark (at p xs) ∷ []
hashed-pieces p [] h = absurd-hash h
  where
    absurd-hash : {A : Type 0} → hashed [] ≡ true → A
    absurd-hash e = absurd (grind (arith, nat_tests))
hashed-pieces p (b ∷ bs) h =
    let hash : eqb b 35 ≡ true = grind (arith, nat_tests) in
    let no-space : has Space b ≡ false = grind (arith, nat_tests) in
    rw no-space (rw hash refl)

-- bytes that do not
plain-pieces : (p : ℕ) (xs : List ℕ) → prefix_len (has Space) xs ≡ 0 → hashed xs ≡ false → pieces p xs ≡ map told (words p xs)
plain-pieces p [] s h = refl
plain-pieces p (b ∷ bs) s h =
    let hash : eqb b 35 ≡ false = grind (arith, nat_tests) in
    (elim (has Space b) as (λ v. has Space b ≡ v → pieces p (b ∷ bs) ≡ map told (words p (b ∷ bs))) [
      | true ↦ λ e. let z : prefix_len (has Space) (b ∷ bs) ≡ 1 + prefix_len (has Space) bs = rw e refl in absurd (omega arith)
      | false ↦ λ e. ap (λ v. cond v (pieces (p + 1) bs) (cond (eqb b 35) (remark (at p (b ∷ bs)) ∷ []) (map told (words p (b ∷ bs))))) e ∙ ap (λ v. cond v (remark (at p (b ∷ bs)) ∷ []) (map told (words p (b ∷ bs)))) hash
    ]) refl

-- past the spaces a fresh line's pieces are its words, unless a remark stands there
pub fresh-words : (a s : ℕ) (u : List ℕ) → s ≡ prefix_len (has Space) u → hashed (drop s u) ≡ false → pieces a u ≡ map told (words a u)
fresh-words a s u e h =
    let skip = subst (λ k. pieces a u ≡ pieces (a + k) (drop k u)) (sym e) (pieces-past a u) in
    let back = subst (λ k. words a u ≡ words (a + k) (drop k u)) (sym e) (past-spaces a u) in
    skip ∙ plain-pieces (a + s) (drop s u) (ap (λ k. prefix_len (has Space) (drop k u)) e ∙ past u) h ∙ ap (map told) (sym back)

pub fresh-remark : (a s : ℕ) (u : List ℕ) → s ≡ prefix_len (has Space) u → hashed (drop s u) ≡ true → pieces a u ≡ remark (at (a + s) (drop s u)) ∷ []
fresh-remark a s u e h =
    let skip = subst (λ k. pieces a u ≡ pieces (a + k) (drop k u)) (sym e) (pieces-past a u) in
    skip ∙ hashed-pieces (a + s) (drop s u) h

-- `&rest[s..]`
rest_of : (u : List ℕ) (s : ℕ) → take (length u - s) (drop s u) ≡ drop s u
rest_of u s = between_to_end u s (length u) (omega arith)

-- `&rest[s..][..n]`
word-part : (u : List ℕ) (s n : ℕ) → take n (drop s u) ≡ take n (take (length u - s) (drop s u))
word-part u s n = ap (take n) (sym (rest_of u s))

-- the word lies in what is left of the line
word-within : (t : List ℕ) (a e s n : ℕ) → a ≤ e → e ≤ length t → s ≤ length (take (e - a) (drop a t)) → n ≤ length (take (length (take (e - a) (drop a t)) - s) (drop s (take (e - a) (drop a t)))) → a + s + n ≤ e
word-within t a e s n ae et sl nl =
    let u = take (e - a) (drop a t) in
    let long : length u ≡ e - a = length-take-le (e - a) (drop a t) (omega (arith, length-drop a t)) in
    omega (arith, ap length (rest_of u s), length-drop s u)

-- a reader at place a of a line that ends at e, before a word past s spaces that is n bytes long
pub record AtWord (t : List ℕ) (a e s n : ℕ) : Type 0 where
  pub order : a ≤ e
  pub inside : e ≤ length t
  pub whole : each (has InLine) (take (e - a) (drop a t)) ≡ true
  pub uncut : (opens gap t a || closes gap t a) ≡ true
  pub ended : closes ends t e ≡ true
  pub space : s ≡ prefix_len (has Space) (take (e - a) (drop a t))
  pub spaced : s ≤ length (take (e - a) (drop a t))
  pub long : n ≡ prefix_len (has InWord) (take (length (take (e - a) (drop a t)) - s) (drop s (take (e - a) (drop a t))))
  pub fits : n ≤ length (take (length (take (e - a) (drop a t)) - s) (drop s (take (e - a) (drop a t))))

-- the run of the word, without the code's cut
run_of : (t : List ℕ) (a e s n : ℕ) → AtWord t a e s n → n ≡ prefix_len (has InWord) (drop s (take (e - a) (drop a t)))
run_of t a e s n h = h.long ∙ ap (prefix_len (has InWord)) (rest_of (take (e - a) (drop a t)) s)

-- the state that `next_piece` leaves after a word
pub word-left : (t : List ℕ) (a e s n : ℕ) → AtWord t a e s n → (a + s + n ≤ e) × (each (has InLine) (take (e - (a + s + n)) (drop (a + s + n) t)) ≡ true) × ((opens gap t (a + s + n) || closes gap t (a + s + n)) ≡ true)
word-left t a e s n h =
    let in-line = word-within t a e s n h.order h.inside h.spaced h.fits in
    let sum : a + (s + n) ≡ a + s + n = omega arith in
    let rest = each-drop (has InLine) (s + n) (take (e - a) (drop a t)) h.whole in
    let stops = word-stops t a e s n in-line h.inside (run_of t a e s n h) h.ended in (
      in-line,
      subst (λ k. each (has InLine) (take (e - k) (drop k t)) ≡ true) sum (subst (λ xs. each (has InLine) xs ≡ true) (left-past t a e (s + n) (omega arith)) rest),
      grind (arith, nat_tests),
    )

pub word-found : (t : List ℕ) (a e s n : ℕ) → AtWord t a e s n → 0 < n →
    map told (words a (take (e - a) (drop a t))) ≡ told (at (a + s) (take n (take (length (take (e - a) (drop a t)) - s) (drop s (take (e - a) (drop a t)))))) ∷ map told (words (a + s + n) (take (e - (a + s + n)) (drop (a + s + n) t)))
word-found t a e s n h some =
    let u = take (e - a) (drop a t) in
    let in-line = word-within t a e s n h.order h.inside h.spaced h.fits in
    let sum : a + (s + n) ≡ a + s + n = omega arith in
    let rest : drop (s + n) u ≡ take (e - (a + s + n)) (drop (a + s + n) t) = left-past t a e (s + n) (omega arith) ∙ ap (λ k. take (e - k) (drop k t)) sum in
    ap (map told) (next_word u a s n h.space (run_of t a e s n h) some)
    ∙ ap (λ bs. told (at (a + s) bs) ∷ map told (words (a + s + n) (drop (s + n) u))) (word-part u s n)
    ∙ ap (λ xs. told (at (a + s) (take n (take (length u - s) (drop s u)))) ∷ map told (words (a + s + n) xs)) rest

pub word_stands : (t : List ℕ) (a e s n : ℕ) → AtWord t a e s n → 0 < n → PieceIn t (told (at (a + s) (take n (take (length (take (e - a) (drop a t)) - s) (drop s (take (e - a) (drop a t)))))))
word_stands t a e s n h some =
    let in-line = word-within t a e s n h.order h.inside h.spaced h.fits in
    subst (λ bs. PieceIn t (told (at (a + s) bs))) (word-part (take (e - a) (drop a t)) s n)
    (told_in t _ (word_in t a e s n in-line h.inside some h.whole h.uncut h.ended h.space (run_of t a e s n h)))

pub word_none : (t : List ℕ) (a e s n : ℕ) → AtWord t a e s n → n ≡ 0 → words a (take (e - a) (drop a t)) ≡ []
word_none t a e s n h z = no_word (take (e - a) (drop a t)) a s h.space (sym (run_of t a e s n h) ∙ z)

-- a fresh line's pieces where no remark stands
pub fresh-plain : (a s : ℕ) (u : List ℕ) → s ≡ prefix_len (has Space) u → hashed (take (length u - s) (drop s u)) ≡ false → pieces a u ≡ map told (words a u)
fresh-plain a s u e h = fresh-words a s u e (sym (ap hashed (rest_of u s)) ∙ h)

pub remark-found : (a start s : ℕ) (u : List ℕ) → a ≡ start → s ≡ prefix_len (has Space) u → hashed (take (length u - s) (drop s u)) ≡ true → cond (eqb a start) (pieces a u) (map told (words a u)) ≡ remark (at (a + s) (take (length u - s) (drop s u))) ∷ []
remark-found a start s u f e h =
    let fresh : eqb a start ≡ true = grind (arith, nat_tests) in
    ap (λ b. cond b (pieces a u) (map told (words a u))) fresh ∙ fresh-remark a s u e (sym (ap hashed (rest_of u s)) ∙ h) ∙ ap (λ bs. remark (at (a + s) bs) ∷ []) (sym (rest_of u s))

pub remark-stands : (t : List ℕ) (a e s : ℕ) → a ≤ e → e ≤ length t → s ≤ length (take (e - a) (drop a t)) → each (has InLine) (take (e - a) (drop a t)) ≡ true → (opens gap t a || closes gap t a) ≡ true → closes ends t e ≡ true →
    s ≡ prefix_len (has Space) (take (e - a) (drop a t)) → hashed (take (length (take (e - a) (drop a t)) - s) (drop s (take (e - a) (drop a t)))) ≡ true → RemarkIn t (at (a + s) (take (length (take (e - a) (drop a t)) - s) (drop s (take (e - a) (drop a t)))))
remark-stands t a e s ae et sl whole uncut ended es h =
    let u = take (e - a) (drop a t) in
    let long : length u ≡ e - a = length-take-le (e - a) (drop a t) (omega (arith, length-drop a t)) in
    subst (λ bs. RemarkIn t (at (a + s) bs)) (sym (rest_of u s)) (remark-in t a e s (omega arith) et whole uncut ended es (sym (ap hashed (rest_of u s)) ∙ h))

-- nothing is left past the end of a line
pub end-left : (start e : ℕ) (t : List ℕ) → cond (eqb e start) (pieces e (take (e - e) (drop e t))) (map told (words e (take (e - e) (drop e t)))) ≡ []
end-left start e t =
    ap (λ xs. cond (eqb e start) (pieces e xs) (map told (words e xs))) (sym (nothing_left e t))
    ∙ (elim (eqb e start) as (λ b. cond {A = List Token} b [] [] ≡ []) [ true ↦ refl | false ↦ refl ])

-- what is left of a line where no remark stands at its front
pub plain-left : (a start s : ℕ) (u : List ℕ) → s ≡ prefix_len (has Space) u → (a ≡ start → hashed (take (length u - s) (drop s u)) ≡ false) → cond (eqb a start) (pieces a u) (map told (words a u)) ≡ map told (words a u)
plain-left a start s u e h =
    ⊎_elim
    (λ p. ap (λ b. cond b (pieces a u) (map told (words a u))) p.0 ∙ fresh-plain a s u e (h p.1))
    (λ p. ap (λ b. cond b (pieces a u) (map told (words a u))) p.0)
    (eqb_tells a start)

-- a line that has been begun has no remark any more
pub begun-left : (a start : ℕ) (u : List ℕ) → start < a → map told (words a u) ≡ cond (eqb a start) (pieces a u) (map told (words a u))
begun-left a start u lt = let b : false ≡ eqb a start = grind (arith, nat_tests) in ap (λ v. cond v (pieces a u) (map told (words a u))) b
