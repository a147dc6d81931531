use Rattle.std.proofs.Common.{arith}
use Rattle.std.proofs.lemmas.Bool.Decides.{nat_tests}
use Rattle.sets.specs.Sets.{has}
use Rattle.sets.proofs.Members.{member-both}
use Rattle.sets.proofs.number_set.NumberSet.intersection.Goals as goal

pub returns : goal.returns
unfolding has
returns g c k = let e = member-both c.args.self.bits c.args.other.bits k in grind (arith, nat_tests)
