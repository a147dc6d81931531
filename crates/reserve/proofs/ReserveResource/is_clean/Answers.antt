use Rattle.std.proofs.Common.{sym}
use Rattle.resource.proofs.Clean.{past-clean}
use Rattle.reserve.specs.Reserves.{reserve_seen}
use Rattle.reserve.proofs.ReserveResource.is_clean.Goals as goal

pub returns-in-None : goal.returns-in-None
returns-in-None g c =
    let x = reserve_seen g.R.Resource.meaning c.args.self.now in
    let h = c.in-None.ensures in
    sym (past-clean x h.sound c.args.way h.found)
