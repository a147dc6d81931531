use Rattle.worked.proofs.OneVerdict.{one-verdict}
use Rattle.worked.proofs.verdict_is_one.Goals as goal

pub returns : goal.returns
returns c = one-verdict
