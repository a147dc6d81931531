-- That what a reader hands out stands in the text as its laws say. In each lemma t is the text, and u the bytes from place a to e, which are left of a line.
use Rattle.std.proofs.Common.{◌≡◌, ℕ, zero, suc, ◌+◌, ◌-◌, ◌<◌, ◌≤◌, true, false, cond, not, ◌||◌, leb, List, [], length, get_or, take, drop, sym, refl, ap, ◌∙◌, subst, ⊎_elim, arith, length-drop, length-take-le}
use Rattle.std.specs.List.{prefix_len}
use Rattle.std.proofs.lemmas.List.{get_or-drop, get_or-take, drop-drop, drop-take, take-take}
use Rattle.std.proofs.lemmas.Bool.Decides.{nat_tests}
use Rattle.std.proofs.str.Laws.{order}
use Rattle.textparts.specs.declared.bytes.Class.TheVariants.{InLine, Space, InWord}
use Rattle.textparts.specs.Bytes.{has, each}
use Rattle.textparts.specs.Shapes.{is_number, worth}
use Rattle.textparts.specs.Spans.{Span, at}
use Rattle.textparts.specs.Tokens.{word, number, told, hashed}
use Rattle.textparts.specs.Laws.{ends, gap, opens, closes, Stands, LineIn, WordIn, RemarkIn, PieceIn}
use Rattle.textparts.proofs.Runs.{run-yes, run-stop, run-each, each_at, each-drop, each_take, each_both}

-- a part of the text stands in it
pub stands : (t : List ℕ) (p n : ℕ) → p + n ≤ length t → Stands t (at p (take n (drop p t)))
stands t p n h =
    let long : length (take n (drop p t)) ≡ n = length-take-le n (drop p t) (omega (arith, length-drop p t)) in
    record { within = omega arith; same = ap (λ k. take k (drop p t)) long }

-- the run of a line stops at the line's end
pub line-stops : (t : List ℕ) (p n : ℕ) → n ≡ prefix_len (has InLine) (drop p t) → closes ends t (p + n) ≡ true
line-stops t p n e =
    ⊎_elim
    (λ lt.
    let stop = run-stop (has InLine) (drop p t) 0 (omega (arith, length-drop p t)) in
    let here : get_or (drop p t) (prefix_len (has InLine) (drop p t)) 0 ≡ get_or t (p + n) 0 = get_or-drop p t _ 0 ∙ ap (λ k. get_or t (p + k) 0) (sym e) in
    grind (arith, nat_tests))
    (λ ge. grind (arith, nat_tests))
    (order (p + n) (length t))

pub line-in : (t : List ℕ) (p n : ℕ) → p + n ≤ length t → n ≡ prefix_len (has InLine) (drop p t) → opens ends t p ≡ true → LineIn t (at p (take n (drop p t)))
line-in t p n h e o =
    let long : length (take n (drop p t)) ≡ n = length-take-le n (drop p t) (omega (arith, length-drop p t)) in
    record {
      stands = stands t p n h;
      apart = ap (λ k. each (has InLine) (take k (drop p t))) e ∙ run-each (has InLine) (drop p t);
      left = o;
      right = ap (λ k. closes ends t (p + k)) long ∙ line-stops t p n e;
    }

-- the line after one that ends at q
pub next-opens : (t : List ℕ) (q : ℕ) → closes ends t q ≡ true → q < length t → opens ends t (q + 1) ≡ true
next-opens t q e h = let back : q + 1 - 1 ≡ q = omega arith in let same : get_or t (q + 1 - 1) 0 ≡ get_or t q 0 = ap (λ k. get_or t k 0) back in grind (arith, nat_tests)

-- the i-th byte left of the line
byte_at : (t : List ℕ) (a e i : ℕ) → a + i < e → get_or (take (e - a) (drop a t)) i 0 ≡ get_or t (a + i) 0
byte_at t a e i h = get_or-take (e - a) (drop a t) i 0 (omega arith) ∙ get_or-drop a t i 0

left-length : (t : List ℕ) (a e : ℕ) → a ≤ e → e ≤ length t → length (take (e - a) (drop a t)) ≡ e - a
left-length t a e h k = length-take-le (e - a) (drop a t) (omega (arith, length-drop a t))

-- past the spaces no word is cut in two
pub word-opens : (t : List ℕ) (a e s : ℕ) → a ≤ e → e ≤ length t → each (has InLine) (take (e - a) (drop a t)) ≡ true → (opens gap t a || closes gap t a) ≡ true →
    s ≡ prefix_len (has Space) (take (e - a) (drop a t)) → a + s < e → opens gap t (a + s) ≡ true
word-opens t a e zero ae et whole uncut es lt =
    let u = take (e - a) (drop a t) in
    let long = left-length t a e ae et in
    let no-space = run-stop (has Space) u 0 (omega arith) in
    let here : get_or u (prefix_len (has Space) u) 0 ≡ get_or t (a + zero) 0 = ap (λ k. get_or u k 0) (sym es) ∙ byte_at t a e zero lt in
    let line = each_at (has InLine) u zero 0 whole (omega arith) in
    let same = byte_at t a e zero lt in
    let a0 : a + zero ≡ a = omega arith in
    let move : get_or t (a + zero) 0 ≡ get_or t a 0 = ap (λ k. get_or t k 0) a0 in
    let inside : leb (length t) a ≡ false = grind (arith, nat_tests) in
    ap (opens gap t) a0 ∙ grind (arith, nat_tests)
word-opens t a e (suc s) ae et whole uncut es lt =
    let u = take (e - a) (drop a t) in
    let space = run-yes (has Space) u s 0 (omega arith) in
    let same = byte_at t a e s (omega arith) in
    let back : a + suc s - 1 ≡ a + s = omega arith in
    let here : get_or t (a + suc s - 1) 0 ≡ get_or t (a + s) 0 = ap (λ k. get_or t k 0) back in
    grind (arith, nat_tests)

-- what is left past the first k bytes
pub left-past : (t : List ℕ) (a e k : ℕ) → a + k ≤ e → drop k (take (e - a) (drop a t)) ≡ take (e - (a + k)) (drop (a + k) t)
left-past t a e k h =
    let cut : e - a ≡ k + (e - (a + k)) = omega arith in
    ap (λ m. drop k (take m (drop a t))) cut ∙ drop-take k (e - (a + k)) (drop a t) ∙ ap (take (e - (a + k))) (drop-drop k a t)

-- the word that begins past s spaces, n bytes long
word_bytes : (t : List ℕ) (a e s n : ℕ) → a + s + n ≤ e → take n (drop s (take (e - a) (drop a t))) ≡ take n (drop (a + s) t)
word_bytes t a e s n h = ap (take n) (left-past t a e s (omega arith)) ∙ take-take n (e - (a + s)) (drop (a + s) t) (omega arith)

-- it stops at a space or with the line
pub word-stops : (t : List ℕ) (a e s n : ℕ) → a + s + n ≤ e → e ≤ length t → n ≡ prefix_len (has InWord) (drop s (take (e - a) (drop a t))) → closes ends t e ≡ true → closes gap t (a + s + n) ≡ true
word-stops t a e s n ae et en ended =
    let u = take (e - a) (drop a t) in
    ⊎_elim
    (λ lt.
    let long = left-length t a e (omega arith) et in
    let rest : length (drop s u) ≡ e - a - s = length-drop s u ∙ ap (λ k. k - s) long in
    let stop = run-stop (has InWord) (drop s u) 0 (omega arith) in
    let here : get_or (drop s u) (prefix_len (has InWord) (drop s u)) 0 ≡ get_or t (a + (s + n)) 0 = ap (λ k. get_or (drop s u) k 0) (sym en) ∙ get_or-drop s u n 0 ∙ byte_at t a e (s + n) (omega arith) in
    let sum : a + (s + n) ≡ a + s + n = omega arith in
    let move : get_or t (a + (s + n)) 0 ≡ get_or t (a + s + n) 0 = ap (λ k. get_or t k 0) sum in
    grind (arith, nat_tests))
    (λ ge.
    let same : a + s + n ≡ e = omega arith in
    ap (closes gap t) same ∙ grind (arith, nat_tests))
    (order (a + s + n) e)

pub word_in : (t : List ℕ) (a e s n : ℕ) → a + s + n ≤ e → e ≤ length t → 0 < n → each (has InLine) (take (e - a) (drop a t)) ≡ true → (opens gap t a || closes gap t a) ≡ true → closes ends t e ≡ true →
    s ≡ prefix_len (has Space) (take (e - a) (drop a t)) → n ≡ prefix_len (has InWord) (drop s (take (e - a) (drop a t))) → WordIn t (at (a + s) (take n (drop s (take (e - a) (drop a t)))))
word_in t a e s n ae et some whole uncut ended es en =
    let u = take (e - a) (drop a t) in
    let bytes = word_bytes t a e s n ae in
    let long : length (take n (drop (a + s) t)) ≡ n = length-take-le n (drop (a + s) t) (omega (arith, length-drop (a + s) t)) in
    let no_end : each (has InLine) (take n (drop s u)) ≡ true = each_take (has InLine) n (drop s u) (each-drop (has InLine) s u whole) in
    let no-space : each (has InWord) (take n (drop s u)) ≡ true = ap (λ k. each (has InWord) (take k (drop s u))) en ∙ run-each (has InWord) (drop s u) in
    let apart = each_both (has InLine) (has InWord) (λ b. not (gap b)) (λ b x y. grind (arith, nat_tests)) (take n (drop s u)) no_end no-space in (
      record {
        stands = subst (λ bs. Stands t (at (a + s) bs)) (sym bytes) (stands t (a + s) n (omega arith));
        apart = apart;
        left = word-opens t a e s (omega arith) et whole uncut es (omega arith);
        right = ap (λ k. closes gap t (a + s + k)) (ap length bytes ∙ long) ∙ word-stops t a e s n ae et en ended;
      },
      omega (arith, ap length bytes, long),
    )

-- a word is a piece, number or not
pub told_in : (t : List ℕ) (s : Span) → WordIn t s → PieceIn t (told s)
told_in t s h =
    (elim (is_number s.bytes) as (λ v. is_number s.bytes ≡ v → PieceIn t (cond v (number s (worth 0 s.bytes)) (word s))) [ true ↦ λ e. (h, e, refl) | false ↦ λ e. h ]) refl

pub remark-in : (t : List ℕ) (a e s : ℕ) → a + s ≤ e → e ≤ length t → each (has InLine) (take (e - a) (drop a t)) ≡ true → (opens gap t a || closes gap t a) ≡ true → closes ends t e ≡ true →
    s ≡ prefix_len (has Space) (take (e - a) (drop a t)) → hashed (drop s (take (e - a) (drop a t))) ≡ true → RemarkIn t (at (a + s) (drop s (take (e - a) (drop a t))))
remark-in t a e s ae et whole uncut ended es hash =
    let u = take (e - a) (drop a t) in
    let bytes = left-past t a e s ae in
    let long : length (take (e - (a + s)) (drop (a + s) t)) ≡ e - (a + s) = length-take-le _ (drop (a + s) t) (omega (arith, length-drop (a + s) t)) in
    let first : get_or (drop s u) 0 0 ≡ 35 = grind (arith, nat_tests) in
    let some : 0 < length (drop s u) = grind (arith, nat_tests) in
    let full : a + s + length (drop s u) ≡ e = omega (arith, ap length bytes, long) in
    record {
      stands = subst (λ bs. Stands t (at (a + s) bs)) (sym bytes) (stands t (a + s) (e - (a + s)) (omega arith));
      hash = first;
      some = some;
      apart = each-drop (has InLine) s u whole;
      left = word-opens t a e s (omega arith) et whole uncut es (omega arith);
      right = ap (closes ends t) full ∙ ended;
    }

-- at its end nothing is left of a line
pub nothing_left : (e : ℕ) (t : List ℕ) → [] ≡ take (e - e) (drop e t)
nothing_left e t = let z : 0 ≡ e - e = omega arith in ap (λ k. take k (drop e t)) z
