use Rattle.std.proofs.Common.{refl}
use Rattle.replay.proofs.Going.{goes-ticked}
use Rattle.replay.proofs.day.Day.tick.Goals as goal

pub returns : goal.returns
returns g c =
    goes-ticked _ c.args.self.now _ c.ticked.result c.tick-answer.result refl refl c.tick-answer.ensures.goes_on c.ticked.ensures c.count_tick.ensures
