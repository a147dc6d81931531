use Rattle.std.proofs.Common.{◌≡◌, true, false, ltb, sym, ◌∙◌, arith}
use Rattle.std.proofs.lemmas.Bool.Decides.{nat_tests}
use Rattle.pair.specs.Both.{shared_ways}
use Rattle.pair.proofs.Both.{both-clean, both-past}
use Rattle.pair.proofs.PairResource.is_clean.Goals as goal

pub returns-then-way-shared : goal.returns-then-way-shared
returns-then-way-shared g c =
    let x = g.A.Resource.meaning.seen c.args.self.now.first in
    let y = g.B.Resource.meaning.seen c.args.self.now.second in
    let i : ltb c.args.way (shared_ways x y) ≡ true = let h = c.shared.ensures.count in grind (arith, nat_tests) in
    c.both_clean.ensures ∙ sym (both-clean x y c.args.way i)

pub returns-else-way-shared : goal.returns-else-way-shared
returns-else-way-shared g c =
    let x = g.A.Resource.meaning.seen c.args.self.now.first in
    let y = g.B.Resource.meaning.seen c.args.self.now.second in
    let i : ltb c.args.way (shared_ways x y) ≡ false = let h = c.shared.ensures.count in grind (arith, nat_tests) in
    sym (both-past x y c.args.way i)
