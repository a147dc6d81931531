use Rattle.std.proofs.Common.{refl}
use Rattle.std.proofs.lemmas.Result.{on_ok_weaker}
use Rattle.replay.proofs.Going.{goes-odd}
use Rattle.replay.proofs.day.Day.call.Goals as goal

pub returns-in-Odd : goal.returns-in-Odd
returns-in-Odd g c = rw c.in-Odd.is (on_ok_weaker c.odd.result (λ told. goes-odd c.args.place refl refl told) c.odd.ensures)
