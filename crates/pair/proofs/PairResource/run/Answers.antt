use Rattle.std.proofs.Common.{◌≡◌, ℕ, ◌&&◌, ltb, ap, ◌∙◌}
use Rattle.sets.specs.Sets.{has}
use Rattle.pair.specs.Both.{shared_ways}
use Rattle.pair.proofs.Both.{both_run}
use Rattle.pair.proofs.PairResource.run.Goals as goal

pub returns : goal.returns
returns g c =
    let m = g.A.Resource.meaning in
    let n = g.B.Resource.meaning in
    let s = c.args.self.now in
    let t = c.run_both.new.self in
    let x = m.seen s.first in
    let y = n.seen s.second in
    let ways = c.args.ways in
    let shared = c.below-both.result in
    let named : (w : ℕ) → has shared w ≡ (has ways w && ltb w (shared_ways x y)) = λ w. c.below-both.ensures.members w ∙ ap (λ (k : ℕ). has ways w && ltb w k) c.shared.ensures.count in
    let h = c.run_both.ensures in
    record {
      said = record { shared = shared; named = named; first = h.first; second = h.second };
      within = both_run x y c.args.task ways shared named (m.seen t.first) (n.seen t.second) h.first.within h.second.within;
    }
