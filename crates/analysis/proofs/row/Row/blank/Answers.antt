use Rattle.std.proofs.Common.{refl}
use Rattle.sets.specs.Sets.{nobody}
use Rattle.analysis.proofs.row.Row.blank.Goals as goal

pub returns : goal.returns
unfolding nobody
returns c = rw c.empty.ensures.value refl
