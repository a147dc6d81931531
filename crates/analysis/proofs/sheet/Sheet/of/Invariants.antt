use Rattle.std.proofs.Common.{◌≡◌, ℕ, ◌<◌, ◌≤◌, length}
use Rattle.analysis.specs.FloorOf.{no_figures}
use Rattle.analysis.specs.Rows.{row_at, row_of}
use Rattle.analysis.proofs.sheet.Sheet.of.Given as goal

-- the tasks before this one have their rows, and all later places are blank
abbrev pub invariant-loop-task : goal.invariant-loop-task
invariant-loop-task l = record {
  long : length l.rows ≡ 16;
  made : (k : ℕ) → k < l.task → row_at l.rows k ≡ row_of l.floor k;
  blank : (k : ℕ) → l.task ≤ k → k < 16 → row_at l.rows k ≡ record { figures = no_figures; scrub = 0; dearest = 0 };
}
