-- What each refusal of a draft tells.
use Rattle.std.specs.Prelude.{codes}
use Rattle.refusal.specs.Told.{Told}
use Rattle.taskset.specs.declared.fault.DraftFault.{DraftFault}
use Rattle.taskset.specs.declared.fault.DraftFault.TheVariants.{FullTable, WildFigure, Itself, Unlisted}

-- number, detail and word of each
abbrev pub draft_told : DraftFault → Told
draft_told FullTable = record { number = 7; detail = 0; word = codes "full table" }
draft_told WildFigure = record { number = 8; detail = 0; word = codes "wild figure" }
draft_told Itself = record { number = 9; detail = 0; word = codes "itself" }
draft_told Unlisted = record { number = 16; detail = 0; word = codes "unlisted" }
