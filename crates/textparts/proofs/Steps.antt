-- How the lines and the words of a list of bytes go on after the first.
use Rattle.std.proofs.Common.{◌≡◌, ℕ, suc, ◌+◌, ◌<◌, ◌≤◌, Bool, true, false, cond, not, List, [], ◌∷◌, length, take, drop, sym, refl, ap, ◌∙◌, subst, ⊎_elim, add-zero, add-one, one-add, arith, length-drop}
use Rattle.std.proofs.lemmas.List.{drop_all, drop-drop}
use Rattle.std.proofs.str.Laws.{order}
use Rattle.std.specs.List.{prefix_len}
use Rattle.textparts.specs.declared.bytes.Class.TheVariants.{InLine, Space, InWord}
use Rattle.textparts.specs.Bytes.{has}
use Rattle.textparts.specs.Spans.{at, longer, lines, words}

-- the first line, and the others
pub first-line : (p b : ℕ) (bs : List ℕ) → lines p (b ∷ bs) ≡ at p (take (prefix_len (has InLine) (b ∷ bs)) (b ∷ bs)) ∷ lines (p + prefix_len (has InLine) (b ∷ bs) + 1) (drop (prefix_len (has InLine) (b ∷ bs) + 1) (b ∷ bs))
first-line p b [] = elim (has InLine b) as (λ v. cond v (at p (b ∷ []) ∷ []) (at p [] ∷ []) ≡ at p (take (cond v (1 + 0) 0) (b ∷ [])) ∷ lines (p + cond v (1 + 0) 0 + 1) (drop (cond v (1 + 0) 0 + 1) (b ∷ []))) [ true ↦ refl | false ↦ refl ]
first-line p b (c ∷ cs) =
    let n = prefix_len (has InLine) (c ∷ cs) in
    let e = first-line (p + 1) c cs in
    let step : longer p b (lines (p + 1) (c ∷ cs)) ≡ at p (b ∷ take n (c ∷ cs)) ∷ lines (p + 1 + n + 1) (drop (n + 1) (c ∷ cs)) = ap (longer p b) e in
    elim (has InLine b) as (λ v. cond v (longer p b (lines (p + 1) (c ∷ cs))) (at p [] ∷ lines (p + 1) (c ∷ cs)) ≡ at p (take (cond v (1 + n) 0) (b ∷ c ∷ cs)) ∷ lines (p + cond v (1 + n) 0 + 1) (drop (cond v (1 + n) 0 + 1) (b ∷ c ∷ cs))) [
      | true ↦ let q : p + 1 + n + 1 ≡ p + (1 + n) + 1 = omega arith in
          subst (λ k. longer p b (lines (p + 1) (c ∷ cs)) ≡ at p (take (1 + n) (b ∷ c ∷ cs)) ∷ lines k (drop (1 + n + 1) (b ∷ c ∷ cs))) q (simp (one-add, add-one) (simp (one-add, add-one) at step))
      | false ↦ rw add-zero refl
    ]

-- spaces before a word count for nothing
pub past-spaces : (p : ℕ) (xs : List ℕ) → words p xs ≡ words (p + prefix_len (has Space) xs) (drop (prefix_len (has Space) xs) xs)
past-spaces p [] = ap (λ k. words k []) (sym (add-zero p))
past-spaces p (b ∷ bs) =
    let n = prefix_len (has Space) bs in
    let q : p + 1 + n ≡ p + (1 + n) = omega arith in
    let at-word : words p (b ∷ bs) ≡ words (p + 0) (b ∷ bs) = ap (λ k. words k (b ∷ bs)) (sym (add-zero p)) in
    let at-space : has Space b ≡ true → words p (b ∷ bs) ≡ words (p + (1 + n)) (drop (1 + n) (b ∷ bs)) = λ h. rw h (past-spaces (p + 1) bs ∙ ap (λ k. words k (drop n bs)) q ∙ simp one-add) in
    (elim (has Space b) as (λ v. has Space b ≡ v → words p (b ∷ bs) ≡ words (p + cond v (1 + n) 0) (drop (cond v (1 + n) 0) (b ∷ bs))) [ true ↦ at-space | false ↦ λ h. at-word ]) refl

-- a byte more in front of the first n
one_more : (p b n : ℕ) (xs : List ℕ) → at p (b ∷ take n xs) ∷ words (p + 1 + n) (drop n xs) ≡ at p (take (1 + n) (b ∷ xs)) ∷ words (p + (1 + n)) (drop (1 + n) (b ∷ xs))
one_more p b n xs = let q : p + 1 + n ≡ p + suc n = omega arith in rw one-add (ap (λ k. at p (b ∷ take n xs) ∷ words k (drop n xs)) q)

pub first_word : (p b : ℕ) (bs : List ℕ) → has Space b ≡ false → words p (b ∷ bs) ≡ at p (take (prefix_len (has InWord) (b ∷ bs)) (b ∷ bs)) ∷ words (p + prefix_len (has InWord) (b ∷ bs)) (drop (prefix_len (has InWord) (b ∷ bs)) (b ∷ bs))
first_word p b [] h = rw h refl
first_word p b (c ∷ cs) h =
    let n = prefix_len (has InWord) (c ∷ cs) in
    let rest = words (p + 1) (c ∷ cs) in
    let go : (v : Bool) → has Space c ≡ v → cond (not v) (longer p b rest) (at p (b ∷ []) ∷ rest) ≡ at p (take (1 + n) (b ∷ c ∷ cs)) ∷ words (p + (1 + n)) (drop (1 + n) (b ∷ c ∷ cs)) = λ v. elim v as (λ v. has Space c ≡ v → cond (not v) (longer p b rest) (at p (b ∷ []) ∷ rest) ≡ at p (take (1 + n) (b ∷ c ∷ cs)) ∷ words (p + (1 + n)) (drop (1 + n) (b ∷ c ∷ cs))) [
      | true ↦ λ e. let z : 0 ≡ n = rw e refl in subst (λ k. at p (b ∷ []) ∷ rest ≡ at p (take (1 + k) (b ∷ c ∷ cs)) ∷ words (p + (1 + k)) (drop (1 + k) (b ∷ c ∷ cs))) z refl
      | false ↦ λ e. ap (longer p b) (first_word (p + 1) c cs e) ∙ one_more p b n (c ∷ cs)
    ] in
    rw h (go (has Space c) refl)

some-line : (p : ℕ) (xs : List ℕ) → 0 < length xs → lines p xs ≡ at p (take (prefix_len (has InLine) xs) xs) ∷ lines (p + prefix_len (has InLine) xs + 1) (drop (prefix_len (has InLine) xs + 1) xs)
some-line p [] h = absurd (omega arith)
some-line p (b ∷ bs) h = first-line p b bs

pub no_line : (t : List ℕ) (p : ℕ) → length t ≤ p → lines p (drop p t) ≡ []
no_line t p h = ap (lines p) (drop_all p t h)

-- the same at a place of a text
pub next-line : (t : List ℕ) (p n q : ℕ) → p < length t → n ≡ prefix_len (has InLine) (drop p t) → (p + n < length t → q ≡ p + n + 1) → (length t ≤ p + n → q ≡ p + n) → lines p (drop p t) ≡ at p (take n (drop p t)) ∷ lines q (drop q t)
next-line t p n q h e some none =
    let long : 0 < length (drop p t) = simp length-drop (omega arith) in
    let step = subst (λ k. lines p (drop p t) ≡ at p (take k (drop p t)) ∷ lines (p + k + 1) (drop (k + 1) (drop p t))) (sym e) (some-line p (drop p t) long) in
    let d : drop (n + 1) (drop p t) ≡ drop (p + n + 1) t = drop-drop (n + 1) p t ∙ ap (λ k. drop k t) (omega arith) in
    let same : lines (p + n + 1) (drop (p + n + 1) t) ≡ lines q (drop q t) = ⊎_elim (λ lt. ap (λ k. lines k (drop k t)) (sym (some lt))) (λ ge. no_line t (p + n + 1) (omega arith) ∙ sym (no_line t q (omega (arith, none ge)))) (order (p + n) (length t)) in
    step ∙ ap (λ ls. at p (take n (drop p t)) ∷ ls) (ap (lines (p + n + 1)) d ∙ same)

some_word : (p : ℕ) (xs : List ℕ) → 0 < prefix_len (has InWord) xs → words p xs ≡ at p (take (prefix_len (has InWord) xs) xs) ∷ words (p + prefix_len (has InWord) xs) (drop (prefix_len (has InWord) xs) xs)
some_word p [] h = absurd (omega arith)
some_word p (b ∷ bs) h =
    (elim (has Space b) as (λ v. has Space b ≡ v → words p (b ∷ bs) ≡ at p (take (prefix_len (has InWord) (b ∷ bs)) (b ∷ bs)) ∷ words (p + prefix_len (has InWord) (b ∷ bs)) (drop (prefix_len (has InWord) (b ∷ bs)) (b ∷ bs))) [
      | true ↦ λ e. let z : prefix_len (has InWord) (b ∷ bs) ≡ 0 = rw e refl in absurd (omega arith)
      | false ↦ λ e. first_word p b bs e
    ]) refl

-- xs is what is left of a line at place p
pub next_word : (xs : List ℕ) (p s n : ℕ) → s ≡ prefix_len (has Space) xs → n ≡ prefix_len (has InWord) (drop s xs) → 0 < n → words p xs ≡ at (p + s) (take n (drop s xs)) ∷ words (p + s + n) (drop (s + n) xs)
next_word xs p s n e f h =
    let skip = subst (λ k. words p xs ≡ words (p + k) (drop k xs)) (sym e) (past-spaces p xs) in
    let word = subst (λ k. words (p + s) (drop s xs) ≡ at (p + s) (take k (drop s xs)) ∷ words (p + s + k) (drop k (drop s xs))) (sym f) (some_word (p + s) (drop s xs) (omega arith)) in
    skip ∙ word ∙ ap (λ ys. at (p + s) (take n (drop s xs)) ∷ words (p + s + n) ys) (drop-drop n s xs)

-- past the blanks a list is empty or begins with a word
ended : (p : ℕ) (xs : List ℕ) → prefix_len (has Space) xs ≡ 0 → prefix_len (has InWord) xs ≡ 0 → words p xs ≡ []
ended p [] e f = refl
ended p (b ∷ bs) e f =
    (elim (has Space b) as (λ v. has Space b ≡ v → words p (b ∷ bs) ≡ []) [
      | true ↦ λ h. let z : prefix_len (has Space) (b ∷ bs) ≡ 1 + prefix_len (has Space) bs = rw h refl in absurd (omega arith)
      | false ↦ λ h. let z : prefix_len (has InWord) (b ∷ bs) ≡ 1 + prefix_len (has InWord) bs = rw h refl in absurd (omega arith)
    ]) refl

pub past : (xs : List ℕ) → prefix_len (has Space) (drop (prefix_len (has Space) xs) xs) ≡ 0
past [] = refl
past (b ∷ bs) =
    (elim (has Space b) as (λ v. has Space b ≡ v → prefix_len (has Space) (drop (cond v (1 + prefix_len (has Space) bs) 0) (b ∷ bs)) ≡ 0) [ true ↦ λ h. simp one-add (past bs) | false ↦ λ h. rw h refl ]) refl

pub no_word : (xs : List ℕ) (p s : ℕ) → s ≡ prefix_len (has Space) xs → prefix_len (has InWord) (drop s xs) ≡ 0 → words p xs ≡ []
no_word xs p s e f =
    let skip = subst (λ k. words p xs ≡ words (p + k) (drop k xs)) (sym e) (past-spaces p xs) in
    skip ∙ ended (p + s) (drop s xs) (ap (λ k. prefix_len (has Space) (drop k xs)) e ∙ past xs) f
