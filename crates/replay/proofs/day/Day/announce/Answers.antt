use Rattle.std.proofs.Common.{refl}
use Rattle.std.proofs.lemmas.Result.{on_ok_weaker}
use Rattle.replay.specs.Told.{announced}
use Rattle.replay.proofs.Going.{goes-by}
use Rattle.replay.proofs.day.Day.announce.Goals as goal

pub returns : goal.returns
returns g c =
    on_ok_weaker c.announced.result (λ told. goes-by refl refl (c.announce-answer.ensures.goes_on _) told c.count_announcement.ensures (λ front asks h t. announced _ _ _ c.number_of-task.ensures t)) c.announced.ensures
