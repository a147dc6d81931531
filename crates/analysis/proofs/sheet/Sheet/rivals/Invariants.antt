use Rattle.std.proofs.Common.{◌≡◌, ℕ, ◌<◌, length}
use Rattle.analysis.specs.RivalIn.{rival_in}
use Rattle.analysis.specs.Rivals.{RivalOf}
use Rattle.analysis.specs.Sheets.{sheet_floor}
use Rattle.analysis.proofs.sheet.Sheet.rivals.Given as goal

abbrev pub invariant-loop-j : goal.invariant-loop-j
invariant-loop-j l = record {
  long : length l.all ≡ 16;
  each : (k : ℕ) → k < l.j → RivalOf (sheet_floor l.self) l.i k (rival_in l.all k);
}
