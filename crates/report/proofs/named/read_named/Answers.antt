use Rattle.report.proofs.Lines.{short-names}
use Rattle.report.proofs.named.read_named.Goals as goal

pub invariant_of-result : goal.invariant_of-result
invariant_of-result c = record { short = short-names _ _ c.in_ok-read.ensures.laws.named }
