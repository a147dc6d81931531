-- What each refusal of the analysis tells.
use Rattle.std.specs.Prelude.{codes}
use Rattle.refusal.specs.Told.{Told}
use Rattle.analysis.specs.declared.fault.AnalysisFault.{AnalysisFault}
use Rattle.analysis.specs.declared.fault.AnalysisFault.TheVariants.{NoTask, NoWay, DearWay, ShortList, NoBound}

-- number, detail (the lowest task or way that it is about) and word of each
abbrev pub analysis_told : AnalysisFault → Told
analysis_told NoTask = record { number = 10; detail = 0; word = codes "no task" }
analysis_told (NoWay task) = record { number = 11; detail = task; word = codes "no way" }
analysis_told (DearWay way) = record { number = 12; detail = way; word = codes "dear way" }
analysis_told ShortList = record { number = 13; detail = 0; word = codes "short list" }
analysis_told (NoBound task) = record { number = 14; detail = task; word = codes "no bound" }
