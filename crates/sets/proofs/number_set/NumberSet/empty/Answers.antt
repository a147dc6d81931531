use Rattle.std.proofs.Common.{refl, arith}
use Rattle.sets.specs.Sets.{has, nobody}
use Rattle.sets.proofs.Members.{member-zero}
use Rattle.sets.proofs.number_set.NumberSet.empty.Goals as goal

pub returns : goal.returns
unfolding has nobody
returns g c = record { members = λ k. let z = member-zero k in grind arith; value = refl }
