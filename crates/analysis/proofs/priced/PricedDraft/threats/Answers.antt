use Rattle.std.proofs.Common.{arith}
use Rattle.std.proofs.lemmas.Bool.Decides.{nat_tests}
use Rattle.analysis.specs.FloorOf.{floor_of}
use Rattle.analysis.proofs.priced.PricedDraft.threats.Goals as goal

pub returns-then-is_apart : goal.returns-then-is_apart
unfolding floor_of
returns-then-is_apart c w = rw c.figures_at.ensures (grind (arith, nat_tests))
