-- What one run call and one scrub call on the pile leave of the memory.
use Rattle.std.proofs.Common.{◌≡◌, ℕ, suc, ◌+◌, ◌-◌, ◌/◌, ◌<◌, min, true, false, ◌&&◌, eqb, ltb, List, length, get_or, sym, ap, ◌∙◌, subst, ⊎_elim, arith}
use Rattle.std.proofs.lemmas.Bool.Decides.{nat_tests, leb_tells}
use Rattle.sets.specs.Sets.{WaySet, has}
use Rattle.sets.proofs.Below.{some-true}
use Rattle.resource.specs.declared.answer.Progress.{Progress}
use Rattle.resource.specs.Seen.{clean}
use Rattle.resource.specs.Meaning.{Meaning, Ran, Scrubbed}
use Rattle.resource.proofs.Clean.{trace-dirty}
use Rattle.way_cache.specs.declared.cache.WayCache.{WayCache}
use Rattle.way_cache.specs.Marks.{marks_seen, first_owned, Wiped}
use Rattle.way_cache.specs.Calls.{dirty_block, Writes, Scrubs}
use Rattle.way_cache.specs.Cache.{cache_meaning, memory_of}
use Rattle.pair.specs.declared.Pair.{Pair}
use Rattle.pair.specs.Pairs.{pair_meaning, pair_seen}
use Rattle.reserve.specs.declared.Reserve.{Reserve}
use Rattle.reserve.specs.Reserves.{reserve_meaning, reserve_seen, hidden_ways}

-- the marks, run on at line 8 of way 2 and scrubbed there once
wiped-by : (xs ys zs : List ℕ) (ways : WaySet) (a : Progress) → length xs ≡ 256 → ((w : ℕ) → w < 8 → has ways w ≡ eqb w 2) → Writes xs 3 ways 40 ys → Scrubs ys 2 a zs → Wiped xs 64 16 zs
wiped-by xs ys zs ways a long only r h =
    let ly = r.long in
    let at : get_or ys 72 0 ≡ 3 = let m = r.marks 72 in let o = only 2 (omega arith) in grind (arith, nat_tests) in
    let own : first_owned ys 2 ≡ true = some-true 16 (λ i. ltb (get_or ys (64 + i) 0) 16) 8 (omega arith) (ap (λ (v : ℕ). ltb v 16) at) in
    let b : dirty_block ys 2 ≡ 0 = simp own in
    record {
      long = h.long ∙ ly;
      marks = λ i.
          let m = r.marks i in
          let n = h.marks i in
          ⊎_elim
          (λ p. let o = only (i / 32) p.1 in grind (arith, nat_tests))
          (λ p. grind (arith, nat_tests))
          (leb_tells (suc (i / 32)) 8);
    }

-- the pile's way 0 is way 2 of the cache
only_two : (ways below shared : WaySet) → ((w : ℕ) → has ways w ≡ (eqb 0 w && ltb w 8)) → ((w : ℕ) → has below (w + 2) ≡ (has ways w && ltb w 6)) → ((w : ℕ) → w < 2 → has below w ≡ false) → ((w : ℕ) → has shared w ≡ (has below w && ltb w 8))
    → (w : ℕ) → w < 8 → has shared w ≡ eqb w 2
only_two ways below shared f g h k w l =
    let s = k w in
    ⊎_elim
    (λ p. let b = h w p.1 in grind (arith, nat_tests))
    (λ p.
    let e : w - 2 + 2 ≡ w = omega (arith, p.1) in
    let b : has below w ≡ (has ways (w - 2) && ltb (w - 2) 6) = subst (λ (i : ℕ). has below i ≡ (has ways (w - 2) && ltb (w - 2) 6)) e (g (w - 2)) in
    let c = f (w - 2) in
    grind (arith, nat_tests, p.1))
    (leb_tells (suc w) 2)

-- the same through a pair and a reserve, whatever stands beside the cache
pub through : {B : Type 0} (n : Meaning B) (ways : WaySet) (s t u : Reserve (Pair WayCache B)) (a : Progress) → ((w : ℕ) → has ways w ≡ (eqb 0 w && ltb w 8)) → s.hidden ≡ 2 → length (memory_of s.rest.first).now ≡ 256 → (n.seen s.rest.second).ways ≡ 8
    → Ran (reserve_meaning (pair_meaning cache_meaning n)) s 3 ways 40 t → Scrubbed (reserve_meaning (pair_meaning cache_meaning n)) t 0 a u
    → ((memory_of u.rest.first).ghost_name ≡ (memory_of s.rest.first).ghost_name) × Wiped (memory_of s.rest.first).now 64 16 (memory_of u.rest.first).now
through n ways s t u a lowest two long eight r h =
    let m = pair_meaning cache_meaning n in
    let above = r.said in
    let pair = above.rest.said in
    let q = pair.first in
    let ws : (pair_seen cache_meaning n s.rest).ways ≡ 8 = omega arith in
    let wt : (pair_seen cache_meaning n t.rest).ways ≡ 8 = above.rest.within.fixed.ways ∙ ws in
    let hs : hidden_ways s ≡ 2 = ap (λ (k : ℕ). min k 8) two in
    let ht : hidden_ways t ≡ 2 = ap (λ (k : ℕ). min k 8) (above.hidden ∙ two) in
    let rs : (reserve_seen m s).ways ≡ 6 = omega arith in
    let named : (w : ℕ) → has above.below (w + 2) ≡ (has ways w && ltb w 6) =
    λ w. ap (λ (k : ℕ). has above.below (w + k)) (sym hs) ∙ above.named w ∙ ap (λ (k : ℕ). has ways w && ltb w k) rs in
    let only = only_two ways above.below pair.shared lowest named (λ w l. above.spared w (omega arith)) (λ w. pair.named w ∙ ap (λ (k : ℕ). has above.below w && ltb w k) ws) in
    let trace = q.within.holds 2 (let o = only 2 (omega arith) in grind (arith, nat_tests)) in
    let dirty : clean (marks_seen (memory_of t.rest.first).now) 2 ≡ false = trace-dirty (marks_seen (memory_of t.rest.first).now) 2 3 (omega arith) trace in
    let below = subst (λ (k : ℕ). Scrubbed m t.rest (0 + k) a u.rest) ht (h.said.rest (omega arith)) in
    let work = below.said.steps.first (omega arith) dirty in
    let d = work.first.said in
    (d.same ∙ q.said.same, wiped-by (memory_of s.rest.first).now (memory_of t.rest.first).now (memory_of u.rest.first).now pair.shared work.answer long only q.said.writes d.scrubs)
