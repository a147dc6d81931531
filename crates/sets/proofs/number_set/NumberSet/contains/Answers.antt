use Rattle.std.proofs.Common.{arith}
use Rattle.std.proofs.lemmas.Bool.Decides.{nat_tests}
use Rattle.sets.specs.Sets.{has}
use Rattle.sets.specs.Member.{member}
use Rattle.sets.proofs.number_set.NumberSet.contains.Goals as goal

pub returns-then-k-lt16 : goal.returns-then-k-lt16
unfolding has member
returns-then-k-lt16 g c = grind (arith, nat_tests)

pub returns-else-k-lt16 : goal.returns-else-k-lt16
unfolding has
returns-else-k-lt16 g c = grind (arith, nat_tests)
