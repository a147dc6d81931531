use Rattle.worked.proofs.Floors.{floors-stand}
use Rattle.worked.proofs.floors_stand.Goals as goal

pub returns : goal.returns
returns c = floors-stand
