-- What one call keeps of the sentences.
use Rattle.std.proofs.Common.{◌≡◌, ℕ, ◌+◌, ◌*◌, ◌/◌, ◌%◌, ◌<◌, ◌≤◌, min, Bool, true, false, cond, ◌&&◌, eqb, ltb, List, length, get_or, sym, ap, ◌∙◌, inl, inr, ⊎_elim, arith, ltb-true, eq-eqb}
use Rattle.std.proofs.lemmas.Bool.Decides.{nat_tests, eqb_tells}
use Rattle.sets.specs.Sets.{WaySet}
use Rattle.sets.proofs.Below.{bool_tells, some-false}
use Rattle.resource.specs.declared.answer.Progress.{Progress}
use Rattle.resource.specs.Seen.{Fixed, Kept, RunOn, ScrubOn, touched}
use Rattle.way_cache.specs.Marks.{ways_in, first_owned, second_owned, marks_seen}
use Rattle.way_cache.specs.Calls.{dirty_block, Writes, Scrubs}
use Rattle.way_cache.proofs.Traces.{trace-at, trace-of, none_of, none_owned, by-block, marks-sound, kept-way}

marks-fixed : (xs ys : List ℕ) → length ys ≡ length xs → Fixed (marks_seen xs) (marks_seen ys)
marks-fixed xs ys e =
    let ws : ways_in ys ≡ ways_in xs = ap (λ (n : ℕ). min (n / 32) 8) e in
    record { ways = ws; cost = λ w. ap (λ (n : ℕ). cond (ltb w n) 2 0) ws }

module _ (xs : List ℕ) (way : ℕ) (a : Progress) (ys : List ℕ) (h : Scrubs xs way a ys) where
  -- a first block that had an owner has none left
  first-wiped : way < ways_in xs → first_owned xs way ≡ true → (j : ℕ) → j < 16 → 16 ≤ get_or ys (32 * way + j) 0
  first-wiped l o j jl =
      let m = h.marks (32 * way + j) in
      let b : dirty_block xs way ≡ 0 = simp o in
      let q : (32 * way + j) / 32 ≡ way = omega arith in
      let r : (32 * way + j) % 32 / 16 ≡ 0 = omega arith in
      let f : get_or ys (32 * way + j) 0 ≡ 255 = grind (arith, nat_tests) in
      omega arith

  -- nor has one that had none
  first-stays : first_owned xs way ≡ false → (j : ℕ) → j < 16 → 16 ≤ get_or ys (32 * way + j) 0
  first-stays o j jl = let m = h.marks (32 * way + j) in let f = none_owned xs (32 * way) o j jl in grind (arith, nat_tests)

  second-wiped : way < ways_in xs → first_owned xs way ≡ false → second_owned xs way ≡ true → (j : ℕ) → j < 16 → 16 ≤ get_or ys (32 * way + 16 + j) 0
  second-wiped l c o j jl =
      let m = h.marks (32 * way + 16 + j) in
      let b : dirty_block xs way ≡ 1 = simp (c, o) in
      let q : (32 * way + 16 + j) / 32 ≡ way = omega arith in
      let r : (32 * way + 16 + j) % 32 / 16 ≡ 1 = omega arith in
      let f : get_or ys (32 * way + 16 + j) 0 ≡ 255 = grind (arith, nat_tests) in
      omega arith

  second-stays : second_owned xs way ≡ false → (j : ℕ) → j < 16 → 16 ≤ get_or ys (32 * way + 16 + j) 0
  second-stays o j jl = let m = h.marks (32 * way + 16 + j) in let f = none_owned xs (32 * way + 16) o j jl in grind (arith, nat_tests)

  first-clear : way < ways_in xs → (j : ℕ) → j < 16 → 16 ≤ get_or ys (32 * way + j) 0
  first-clear l = elim (bool_tells (first_owned xs way)) [ inl o ↦ first-wiped l o | inr o ↦ first-stays o ]

  -- the second block has none left unless both had one
  second-clear : way < ways_in xs → (first_owned xs way && second_owned xs way) ≡ false → (j : ℕ) → j < 16 → 16 ≤ get_or ys (32 * way + 16 + j) 0
  second-clear l n = elim (bool_tells (second_owned xs way)) [ inl o ↦ second-wiped l (grind arith) o | inr o ↦ second-stays o ]

  other_way : (w : ℕ) → (w ≡ way → ⊥) → Kept (marks_seen xs) (marks_seen ys) w
  other_way w ne =
      kept-way xs ys w h.long
      (λ j l. let m = h.marks (32 * w + j) in let q : (32 * w + j) / 32 ≡ w = omega arith in let n : eqb ((32 * w + j) / 32) way ≡ false = grind (arith, nat_tests) in grind (arith, nat_tests))

  pub marks-scrub : ScrubOn (marks_seen xs) way a (marks_seen ys)
  marks-scrub =
      let fixed = marks-fixed xs ys h.long in
      let ws = fixed.ways in
      record {
        before = marks-sound xs;
        after = marks-sound ys;
        fixed = fixed;
        done = λ e.
            elim (bool_tells (ltb way (ways_in xs))) [
              | inl p ↦
                  let l = ltb-true way (ways_in xs) p in
                  let d = h.done in
                  let n : (first_owned xs way && second_owned xs way) ≡ false = grind arith in
                  none_of ys way (by-block (λ i. 16 ≤ get_or ys i 0) way (first-clear l) (second-clear l n))
              | inr p ↦ λ k. let n : ltb way (ways_in ys) ≡ false = ap (ltb way) ws ∙ p in grind arith
            ];
        falls = λ e.
            let d = h.done in
            let i : ltb way (ways_in xs) ≡ true = grind arith in
            let f : first_owned ys way ≡ false = some-false 16 (λ i. ltb (get_or ys (32 * way + i) 0) 16) (λ j l. let o = first-clear (ltb-true way (ways_in xs) i) j l in grind (arith, nat_tests)) in
            grind arith;
        adds = λ k e.
            let t = trace-at ys way k e in
            let m = h.marks (32 * way + t.2.0) in
            let f : get_or xs (32 * way + t.2.0) 0 ≡ k = grind (arith, nat_tests, t.2.2, t.1) in
            trace-of xs way k t.2.0 (omega (arith, t.0, ws)) t.1 t.2.1 f;
        past = λ l. let i : ltb way (ways_in xs) ≡ false = grind (arith, nat_tests) in h.done ∙ simp i;
        other = other_way;
      }

either-mark : (b : Bool) (x y k : ℕ) → cond b x y ≡ k → (k ≡ x → ⊥) → y ≡ k
either-mark true x y k e n = absurd (n (sym e))
either-mark false x y k e n = e

pub marks-run : (xs : List ℕ) (task : ℕ) (ways : WaySet) (address : ℕ) (ys : List ℕ) → Writes xs task ways address ys → RunOn (marks_seen xs) task ways (marks_seen ys)
marks-run xs task ways address ys h =
    let fixed = marks-fixed xs ys h.long in
    let ws = fixed.ways in
    record {
      before = marks-sound xs;
      after = marks-sound ys;
      fixed = fixed;
      holds = λ w e.
          let j = address % 32 in
          let jl : j < 32 = omega arith in
          let i = 32 * w + j in
          let q : i / 32 ≡ w = omega arith in
          let r : i % 32 ≡ j = omega arith in
          let a1 : touched (marks_seen xs) task ways (i / 32) ≡ true = ap (touched (marks_seen xs) task ways) q ∙ e in
          let a2 : eqb (i % 32) (address % 32) ≡ true = eq-eqb (i % 32) (address % 32) r in
          let f : get_or ys i 0 ≡ task = h.marks i ∙ simp (a1, a2) in
          let u : task < 16 = grind (arith, nat_tests) in
          let l : w < ways_in xs = grind (arith, nat_tests) in
          trace-of ys w task j (omega arith) u jl f;
      only = λ w k t e.
          let t = trace-at ys w k e in
          let m = h.marks (32 * w + t.2.0) in
          ⊎_elim
          (λ q. inl q.1)
          (λ q.
          let f : get_or xs (32 * w + t.2.0) 0 ≡ k = either-mark _ task (get_or xs (32 * w + t.2.0) 0) k (sym m ∙ t.2.2) q.1 in
          inr (trace-of xs w k t.2.0 (omega (arith, t.0, ws)) t.1 t.2.1 f))
          (eqb_tells k task);
      other = λ w e.
          kept-way xs ys w h.long
          (λ j l.
          let q : (32 * w + j) / 32 ≡ w = omega arith in
          let n : touched (marks_seen xs) task ways ((32 * w + j) / 32) ≡ false = ap (touched (marks_seen xs) task ways) q ∙ e in
          h.marks (32 * w + j) ∙ simp n);
    }
