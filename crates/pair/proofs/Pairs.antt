-- What a pair's scrub call keeps of the sentences.
use Rattle.std.proofs.Common.{◌≡◌, ℕ, ◌+◌, ◌<◌, true, false, ltb, ◌⊎◌, sym, refl, ap, ◌∙◌, subst, inl, inr, arith, ltb-false, ltb-true}
use Rattle.std.proofs.lemmas.Bool.Decides.{nat_tests}
use Rattle.sets.proofs.Below.{bool_tells}
use Rattle.resource.specs.declared.answer.Progress.{Progress}
use Rattle.resource.specs.declared.answer.Progress.TheVariants.{Done, UnderWay}
use Rattle.resource.specs.Answers.{is_done}
use Rattle.resource.specs.Seen.{Seen, Sound, Fixed, Kept, clean}
use Rattle.resource.specs.Meaning.{Meaning, Scrubbed}
use Rattle.resource.proofs.Clean.{clean-bare, bare-clean}
use Rattle.resource.proofs.Laws.{kept_same, fixed_same}
use Rattle.pair.specs.declared.Pair.{Pair}
use Rattle.pair.specs.Both.{shared_ways, owed, both}
use Rattle.pair.specs.Pairs.{pair_seen, pair_meaning, OnFirst, OnSecond, Same, Steps}
use Rattle.pair.proofs.Both.{both-clean, both-past, both-sound, both-fixed, both-kept}

-- what one scrub call, or none, leaves of a part
record Part (x : Seen) (way : ℕ) (x' : Seen) : Type 0 where
  after : Sound x'
  fixed : Fixed x x'
  adds : (k : ℕ) → x'.traces way k ≡ true → x.traces way k ≡ true
  other : (w : ℕ) → (w ≡ way → ⊥) → Kept x x' w

module _ {S : Type 0} (m : Meaning S) where
  part_same : (s t : S) (way : ℕ) → Sound (m.seen s) → t ≡ s → Part (m.seen s) way (m.seen t)
  part_same s t way ok e =
      let here : Part (m.seen s) way (m.seen s) = record { after = ok; fixed = fixed_same (m.seen s); adds = λ k h. h; other = λ w ne. kept_same (m.seen s) w } in
      subst (λ (z : S). Part (m.seen s) way (m.seen z)) (sym e) here

  part-scrub : (s t : S) (way : ℕ) (a : Progress) → Scrubbed m s way a t → Part (m.seen s) way (m.seen t)
  part-scrub s t way a h = let r = h.within in record { after = r.after; fixed = r.fixed; adds = r.adds; other = r.other }

  -- a call on a way that is not clean leaves fewer calls owed
  nearer : (s t : S) (way : ℕ) (a : Progress) → clean (m.seen s) way ≡ false → Scrubbed m s way a t → owed (m.seen t) way < owed (m.seen s) way
  nearer s t way Done d h =
      let c = bare-clean (m.seen t) way (h.within.done refl) in
      let l = h.within.before.least way in
      grind arith
  nearer s t way UnderWay d h = let f = h.within.falls refl in grind arith

module _ {A B : Type 0} (m : Meaning A) (n : Meaning B) (s : Pair A B) (way : ℕ) (t : Pair A B) where
  -- the parts after a step, and that it came nearer to the end unless the way was clean
  record Stepped : Type 0 where
    first : Part (m.seen s.first) way (m.seen t.first)
    second : Part (n.seen s.second) way (n.seen t.second)
    nearer : (clean (pair_seen m n t) way ≡ true) ⊎ (owed (m.seen t.first) way + owed (n.seen t.second) way < owed (m.seen s.first) way + owed (n.seen s.second) way)

  -- a step on no part, on the first, and on the second
  at_rest : Sound (m.seen s.first) → Sound (n.seen s.second) → clean (pair_seen m n s) way ≡ true → Same s t → Stepped
  at_rest oa ob e z =
      let same : clean (pair_seen m n t) way ≡ clean (pair_seen m n s) way =
      ap (λ (a : A). clean (both (m.seen a) (n.seen t.second)) way) z.first ∙ ap (λ (b : B). clean (both (m.seen s.first) (n.seen b)) way) z.second in
      record { first = part_same m s.first t.first way oa z.first; second = part_same n s.second t.second way ob z.second; nearer = inl (same ∙ e) }

  on-first : Sound (n.seen s.second) → clean (m.seen s.first) way ≡ false → OnFirst m s way t → Stepped
  on-first ob d z =
      let f = nearer m s.first t.first way z.answer d z.first in
      let e : owed (n.seen t.second) way ≡ owed (n.seen s.second) way = ap (λ (b : B). owed (n.seen b) way) z.second in
      record { first = part-scrub m s.first t.first way z.answer z.first; second = part_same n s.second t.second way ob z.second; nearer = inr (omega arith) }

  on-second : Sound (m.seen s.first) → clean (n.seen s.second) way ≡ false → OnSecond n s way t → Stepped
  on-second oa d z =
      let f = nearer n s.second t.second way z.answer d z.second in
      let e : owed (m.seen t.first) way ≡ owed (m.seen s.first) way = ap (λ (a : A). owed (m.seen a) way) z.first in
      record { first = part_same m s.first t.first way oa z.first; second = part-scrub n s.second t.second way z.answer z.second; nearer = inr (omega arith) }

  stepped : Sound (m.seen s.first) → Sound (n.seen s.second) → Steps m n s way t → Stepped
  stepped oa ob h =
      let x = m.seen s.first in
      let y = n.seen s.second in
      elim (bool_tells (ltb way (shared_ways x y))) [
        | inl p ↦
            elim (bool_tells (clean x way)) [
              | inl q ↦
                  elim (bool_tells (clean y way)) [
                    | inl r ↦ at_rest oa ob (both-clean x y way p ∙ simp (q, r)) (h.idle q r)
                    | inr r ↦ on-second oa r (h.second (ltb-true way (shared_ways x y) p) q r)
                  ]
              | inr q ↦ on-first ob q (h.first (ltb-true way (shared_ways x y) p) q)
            ]
        | inr p ↦ at_rest oa ob (both-past x y way p) (h.past (ltb-false way (shared_ways x y) p))
      ]

  -- a step, answered by whether the way is then clean, is a scrub call
  pub pair-scrub : (a : Progress) → Sound (m.seen s.first) → Sound (n.seen s.second) → Steps m n s way t → is_done a ≡ clean (pair_seen m n t) way → Scrubbed (pair_meaning m n) s way a t
  pair-scrub a oa ob h r =
      let x = m.seen s.first in
      let y = n.seen s.second in
      let x' = m.seen t.first in
      let y' = n.seen t.second in
      let parts = stepped oa ob h in
      let pa = parts.first in
      let pb = parts.second in
      let fixed = both-fixed x y x' y' pa.fixed pb.fixed in
      let after = both-sound x' y' pa.after pb.after in
      let ws : shared_ways x' y' ≡ shared_ways x y = fixed.ways in
      let i : ltb way (shared_ways x' y') ≡ ltb way (shared_ways x y) = ap (λ (k : ℕ). ltb way k) ws in
      record {
        said = record { steps = h; done = r };
        within = record {
          before = both-sound x y oa ob;
          after = after;
          fixed = fixed;
          done = λ e. clean-bare (both x' y') after way (sym r ∙ e);
          falls = λ e.
              let d : clean (both x' y') way ≡ false = sym r ∙ e in
              let j : ltb way (shared_ways x' y') ≡ true = let p = both-past x' y' way in grind arith in
              let c = both-clean x' y' way j in
              let la = pa.after.least way in
              let lb = pb.after.least way in
              let f = parts.nearer in
              grind arith;
          adds = λ k e. let u = pa.adds k in let v = pb.adds k in grind arith;
          past = λ l. let p = both-past x' y' way (grind (arith, nat_tests)) in r ∙ p;
          other = λ w ne. both-kept x y x' y' w ws (pa.other w ne) (pb.other w ne);
        };
      }
