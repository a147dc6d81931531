-- What the core does in the next tick.
use Rattle.std.specs.Prelude.{Some, None}
use Rattle.analysis.specs.Floor.{Floor}
use Rattle.runs.specs.State.{State, chosen, scrub_way}
use Rattle.dispatch.specs.declared.dispatcher.choice.Turn.{Turn}
use Rattle.dispatch.specs.declared.dispatcher.choice.Turn.TheVariants.{Rest, Scrub, Run}
use Rattle.dispatch.specs.Optional.{StandsFor}

-- nobody has the tick; or the task has it, and scrubs the way; or the task has it, and no way is to be scrubbed for it
abbrev pub IsTurn : Floor → State → Turn → Type 0
IsTurn f s Rest = StandsFor f.tasks (chosen f s) None
IsTurn f s (Scrub i w) =
    StandsFor f.tasks (chosen f s) (Some i) × StandsFor f.ways (scrub_way f s i) (Some w)
IsTurn f s (Run i) =
    StandsFor f.tasks (chosen f s) (Some i) × StandsFor f.ways (scrub_way f s i) None
