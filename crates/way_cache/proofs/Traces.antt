-- Traces, marks and blocks.
use Rattle.std.proofs.Common.{◌≡◌, ℕ, suc, ◌+◌, ◌-◌, ◌*◌, ◌/◌, ◌<◌, ◌≤◌, min, true, false, not, ◌&&◌, eqb, ltb, List, length, get_or, sym, ap, ◌∙◌, subst, inl, inr, ⊎_elim, arith, ltb-false, ltb-true, eq-eqb, eqb-true}
use Rattle.std.proofs.lemmas.Bool.Decides.{nat_tests, leb_tells}
use Rattle.sets.proofs.Below.{bool_tells, some-true, some_at, none-at, some-ext}
use Rattle.resource.specs.Seen.{Sound, Kept, clean}
use Rattle.resource.proofs.Clean.{bare-clean, trace-dirty}
use Rattle.way_cache.specs.Marks.{owner_in, mark_in, ways_in, first_owned, second_owned, marks_seen}

-- a trace is a mark of the way
pub trace-at : (xs : List ℕ) (w k : ℕ) → (marks_seen xs).traces w k ≡ true → (w < ways_in xs) × (k < 16) × ((j : ℕ) × (j < 32) × (get_or xs (32 * w + j) 0 ≡ k))
trace-at xs w k e =
    let a : w < ways_in xs = grind (arith, nat_tests) in
    let b : k < 16 = grind (arith, nat_tests) in
    let f : mark_in xs (32 * w) 32 k ≡ true = grind arith in
    let g = some_at 32 (λ i. eqb (get_or xs (32 * w + i) 0) k) f in
    (a, b, (g.0, g.1, eqb-true (get_or xs (32 * w + g.0) 0) k g.2))

pub trace-of : (xs : List ℕ) (w k j : ℕ) → w < ways_in xs → k < 16 → j < 32 → get_or xs (32 * w + j) 0 ≡ k → (marks_seen xs).traces w k ≡ true
trace-of xs w k j a b c e =
    let f : mark_in xs (32 * w) 32 k ≡ true = some-true 32 (λ i. eqb (get_or xs (32 * w + i) 0) k) j c (eq-eqb _ _ e) in
    grind (arith, nat_tests)

-- a way with no owner among its marks has no trace
pub none_of : (xs : List ℕ) (w : ℕ) → ((j : ℕ) → j < 32 → 16 ≤ get_or xs (32 * w + j) 0) → (k : ℕ) → (marks_seen xs).traces w k ≡ false
none_of xs w h k =
    ⊎_elim
    (λ e. let t = trace-at xs w k e in let n = h t.2.0 t.2.1 in absurd (omega (arith, t.1, t.2.2, n)))
    (λ e. e)
    (bool_tells ((marks_seen xs).traces w k))

owner_at : (xs : List ℕ) (a : ℕ) → owner_in xs a 16 ≡ true → (j : ℕ) × (j < 16) × (get_or xs (a + j) 0 < 16)
owner_at xs a e = let g = some_at 16 (λ i. ltb (get_or xs (a + i) 0) 16) e in (g.0, g.1, ltb-true _ _ g.2)

pub none_owned : (xs : List ℕ) (a : ℕ) → owner_in xs a 16 ≡ false → (j : ℕ) → j < 16 → 16 ≤ get_or xs (a + j) 0
none_owned xs a e j l = ltb-false _ _ (none-at 16 (λ i. ltb (get_or xs (a + i) 0) 16) e j l)

-- line j of a way lies in its first block or in its second
pub by-block : (P : ℕ → Type 0) (w : ℕ) → ((j : ℕ) → j < 16 → P (32 * w + j)) → ((j : ℕ) → j < 16 → P (32 * w + 16 + j)) → (j : ℕ) → j < 32 → P (32 * w + j)
by-block P w f s j l =
    ⊎_elim
    (λ h. f j h.1)
    (λ h. let e : 32 * w + 16 + (j - 16) ≡ 32 * w + j = omega (arith, h.1) in subst P e (s (j - 16) (omega arith)))
    (leb_tells (suc j) 16)

-- an owner in a block is a trace on the way
dirty-block : (xs : List ℕ) (w b : ℕ) → w < ways_in xs → b ≤ 16 → owner_in xs (32 * w + b) 16 ≡ true → clean (marks_seen xs) w ≡ false
dirty-block xs w b l h p =
    let o = owner_at xs (32 * w + b) p in
    let e : 32 * w + (b + o.0) ≡ 32 * w + b + o.0 = omega arith in
    let k = get_or xs (32 * w + b + o.0) 0 in
    let t = trace-of xs w k (b + o.0) l o.2 (omega (arith, o.1)) (ap (λ (i : ℕ). get_or xs i 0) e) in
    trace-dirty (marks_seen xs) w k o.2 t

-- a way is clean where neither of its blocks has an owner
pub clean-blocks : (xs : List ℕ) (w : ℕ) → w < ways_in xs → clean (marks_seen xs) w ≡ (not (first_owned xs w) && not (second_owned xs w))
clean-blocks xs w l =
    elim (bool_tells (first_owned xs w)) [
      | inl p ↦
          let z : 32 * w + 0 ≡ 32 * w = omega arith in
          let d = dirty-block xs w 0 l (omega arith) (ap (λ (a : ℕ). owner_in xs a 16) z ∙ p) in
          d ∙ sym (simp p)
      | inr p ↦
          elim (bool_tells (second_owned xs w)) [
            | inl q ↦ let d = dirty-block xs w 16 l (omega arith) q in d ∙ sym (simp (p, q))
            | inr q ↦ bare-clean (marks_seen xs) w (none_of xs w (by-block (λ i. 16 ≤ get_or xs i 0) w (none_owned xs (32 * w) p) (none_owned xs (32 * w + 16) q))) ∙ sym (simp (p, q))
          ]
    ]

pub marks-sound : (xs : List ℕ) → Sound (marks_seen xs)
marks-sound xs = record {
  few = omega arith;
  priced = λ w l. grind (arith, nat_tests);
  least = λ w. grind arith;
  most = λ w l. grind (arith, nat_tests);
  tasks = λ w k u. grind (arith, nat_tests);
  free = λ w l. grind (arith, nat_tests);
  bare = λ w l k. grind (arith, nat_tests);
  once = λ w l. grind (arith, nat_tests);
}

-- where the marks of a way stay, so do its traces and the calls that it may need
pub kept-way : (xs ys : List ℕ) (w : ℕ) → length ys ≡ length xs → ((j : ℕ) → j < 32 → get_or ys (32 * w + j) 0 ≡ get_or xs (32 * w + j) 0) → Kept (marks_seen xs) (marks_seen ys) w
kept-way xs ys w e h =
    let ws : ways_in ys ≡ ways_in xs = ap (λ (n : ℕ). min (n / 32) 8) e in
    let f = some-ext 16 (λ i. ltb (get_or ys (32 * w + i) 0) 16) (λ i. ltb (get_or xs (32 * w + i) 0) 16) (λ j l. ap (λ (v : ℕ). ltb v 16) (h j (omega arith))) in
    let s = some-ext 16 (λ i. ltb (get_or ys (32 * w + 16 + i) 0) 16) (λ i. ltb (get_or xs (32 * w + 16 + i) 0) 16)
    (λ j l.
    let q : 32 * w + 16 + j ≡ 32 * w + (16 + j) = omega arith in
    ap (λ (v : ℕ). ltb v 16) (ap (λ (i : ℕ). get_or ys i 0) q ∙ h (16 + j) (omega arith) ∙ ap (λ (i : ℕ). get_or xs i 0) (sym q))) in
    record {
      traces = λ k.
          let m = some-ext 32 (λ i. eqb (get_or ys (32 * w + i) 0) k) (λ i. eqb (get_or xs (32 * w + i) 0) k) (λ j l. ap (λ (v : ℕ). eqb v k) (h j l)) in
          cc;
      left = cc;
    }
