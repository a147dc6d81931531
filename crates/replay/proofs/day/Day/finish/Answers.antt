use Rattle.std.proofs.Common.{refl}
use Rattle.std.proofs.lemmas.Result.{on_ok_weaker}
use Rattle.replay.specs.Told.{finished}
use Rattle.replay.proofs.Going.{goes-by}
use Rattle.replay.proofs.day.Day.finish.Goals as goal

pub returns : goal.returns
returns g c =
    on_ok_weaker c.finished.result (λ told. goes-by refl refl (c.finish-answer.ensures.goes_on _) told c.count_finish.ensures (λ front asks h t. finished _ _ _ c.number_of-task.ensures t)) c.finished.ensures
