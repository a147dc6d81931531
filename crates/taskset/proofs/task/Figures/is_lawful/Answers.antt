use Rattle.std.proofs.Common.{arith}
use Rattle.std.proofs.lemmas.Bool.Decides.{nat_tests}
use Rattle.taskset.specs.Figures.{lawful}
use Rattle.taskset.proofs.task.Figures.is_lawful.Goals as goal

pub returns-then-self : goal.returns-then-self
unfolding lawful
returns-then-self c = grind (arith, nat_tests)

pub returns-else-self : goal.returns-else-self
unfolding lawful
returns-else-self c = grind (arith, nat_tests)
