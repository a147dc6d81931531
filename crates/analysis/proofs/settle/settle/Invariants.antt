use Rattle.std.proofs.Common.{◌≡◌, ℕ, ◌<◌, get_or, length}
use Rattle.analysis.specs.Bounds.{InTime}
use Rattle.analysis.specs.Sheets.{sheet_floor}
use Rattle.analysis.proofs.settle.settle.Given as goal

abbrev pub invariant-loop-task : goal.invariant-loop-task
invariant-loop-task l = record {
  long : length l.bounds ≡ 16;
  each : (k : ℕ) → k < l.task → InTime (sheet_floor l.sheet) k (get_or l.bounds k 0);
}
