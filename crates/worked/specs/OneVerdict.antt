-- No floor has two verdicts.
use Rattle.std.specs.Prelude.{◌≡◌, ℕ, Result}
use Rattle.analysis.specs.declared.fault.AnalysisFault.{AnalysisFault}
use Rattle.analysis.specs.Floor.{Floor}
use Rattle.analysis.specs.Verdict.{Verdict}

-- an answer that satisfies the conditions of the verdict is the only one that does, so each answer is given exactly where its conditions hold
abbrev pub OneVerdict : Type 0
OneVerdict = (f : Floor) (ways room : ℕ) (r s : Result (Unit {0}) AnalysisFault) → Verdict f ways room r → Verdict f ways room s → r ≡ s
