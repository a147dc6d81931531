-- What each refusal of a dispatcher tells.
use Rattle.std.specs.Prelude.{codes}
use Rattle.refusal.specs.Told.{Told}
use Rattle.runs.specs.declared.fault.CallFault.{CallFault}
use Rattle.runs.specs.declared.fault.CallFault.TheVariants.{Unlisted, TooEarly, NotRunning}
use Rattle.runs.specs.declared.fault.StartFault.{StartFault}
use Rattle.runs.specs.declared.fault.StartFault.TheVariants.{NoTask, OtherCosts}

-- number, detail and word of a refused announcement or finish
abbrev pub call_told : CallFault → Told
call_told Unlisted = record { number = 16; detail = 0; word = codes "unlisted" }
call_told TooEarly = record { number = 17; detail = 0; word = codes "too early" }
call_told NotRunning = record { number = 18; detail = 0; word = codes "not running" }

-- number, detail and word of a refused start
abbrev pub start_told : StartFault → Told
start_told NoTask = record { number = 10; detail = 0; word = codes "no task" }
start_told (OtherCosts way) = record { number = 15; detail = way; word = codes "other costs" }
