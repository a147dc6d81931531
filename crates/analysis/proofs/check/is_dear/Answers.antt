use Rattle.std.proofs.Common.{arith}
use Rattle.std.proofs.lemmas.Bool.Decides.{nat_tests}
use Rattle.analysis.specs.Verdict.{dear}
use Rattle.analysis.proofs.check.is_dear.Goals as goal

pub returns-then-cost-gt1000 : goal.returns-then-cost-gt1000
unfolding dear
returns-then-cost-gt1000 c = grind (arith, nat_tests)

pub returns-else-cost-gt1000 : goal.returns-else-cost-gt1000
unfolding dear
returns-else-cost-gt1000 c = grind (arith, nat_tests)
