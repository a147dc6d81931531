-- What the refusal of a report tells.
use Rattle.std.specs.Prelude.{codes}
use Rattle.refusal.specs.Told.{Told}
use Rattle.report.specs.declared.fault.ReportFault.{ReportFault}
use Rattle.report.specs.declared.fault.ReportFault.TheVariants.{ShortBuffer}

-- number, detail and word
abbrev pub report_told : ReportFault → Told
report_told ShortBuffer = record { number = 13; detail = 0; word = codes "short list" }
