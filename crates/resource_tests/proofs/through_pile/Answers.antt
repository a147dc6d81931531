use Rattle.std.proofs.Common.{◌≡◌, ℕ, ◌&&◌, eqb, ltb, List, length, sym, refl, ap, ◌∙◌, subst, arith}
use Rattle.sets.specs.Sets.{has}
use Rattle.row_banks.specs.Board.{banks_meaning}
use Rattle.way_cache.specs.declared.cache.WayCache.{WayCache}
use Rattle.way_cache.specs.Marks.{Wiped}
use Rattle.way_cache.specs.Cache.{memory_of}
use Rattle.resource_tests.proofs.Pile.{through}
use Rattle.resource_tests.proofs.through_pile.Goals as goal

pub returns : goal.returns
returns c =
    let s = c.new-pile.result in
    let u = c.scrub.new.self in
    let lowest : (w : ℕ) → has c.with-lowest.result w ≡ (eqb 0 w && ltb w 8) = λ w. let e = c.with-lowest.ensures.members w in let f = c.empty.ensures.members w in grind arith in
    let into : s.rest.first ≡ c.over-cache.result = ap (λ p. p.first) c.new-pile.ensures.rest ∙ c.new.ensures.first in
    let memory : (memory_of s.rest.first).now ≡ c.args.memory.now = ap (λ (z : WayCache). (memory_of z).now) into ∙ c.over-cache.ensures.marks in
    let long : length (memory_of s.rest.first).now ≡ 256 = ap length memory ∙ c.requires in
    let h = through banks_meaning c.with-lowest.result s c.run.new.self u c.scrub.result lowest c.new-pile.ensures.hidden long refl c.run.ensures c.scrub.ensures in
    let out : c.into_parts-cache.result.0 ≡ u.rest.first = c.into_parts-cache.ensures.first ∙ ap (λ p. p.first) c.into_parts-rest.ensures.rest in
    let last : c.into_memory.result.now ≡ (memory_of u.rest.first).now = c.into_memory.ensures.marks ∙ ap (λ (z : WayCache). (memory_of z).now) out in
    record {
      same = c.into_memory.ensures.same ∙ ap (λ (z : WayCache). (memory_of z).ghost_name) out ∙ h.0 ∙ ap (λ (z : WayCache). (memory_of z).ghost_name) into ∙ c.over-cache.ensures.same;
      wiped = subst (λ (xs : List ℕ). Wiped xs 64 16 c.into_memory.result.now) memory (subst (λ (ys : List ℕ). Wiped (memory_of s.rest.first).now 64 16 ys) (sym last) h.1);
    }
