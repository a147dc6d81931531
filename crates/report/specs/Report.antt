-- The report on a text.
use Rattle.std.specs.Prelude.{◌≡◌, ℕ, ◌-◌, ◌<◌, ◌≤◌, cond, List, length, Ok, Err, Result, nat_lt, slice_index}
use Rattle.taskset.specs.Table.{Table, count}
use Rattle.tabletext.specs.declared.fault.TextFault.{TextFault}
use Rattle.tabletext.specs.Faults.{text_told}
use Rattle.tabletext.specs.Read.{read_text}
use Rattle.analysis.specs.declared.fault.AnalysisFault.{AnalysisFault}
use Rattle.analysis.specs.Bounds.{InTime}
use Rattle.analysis.specs.Faults.{analysis_told}
use Rattle.analysis.specs.Floor.{Floor}
use Rattle.analysis.specs.FloorOf.{floor_of}
use Rattle.analysis.specs.Verdict.{Verdict}
use Rattle.report.specs.declared.fault.ReportFault.{ReportFault}
use Rattle.report.specs.Page.{put, refusal_line}
use Rattle.report.specs.Rows.{rows_below}

-- the floor of a table on an empty way cache of eight ways, each of which costs 2
abbrev pub box_floor : Table → Floor
box_floor t = floor_of t (λ w. cond (nat_lt w 8) 2 0)

-- two lists hold each task's bound, within its deadline, and its slack
pub record Settled (t : Table) (bounds slacks : List ℕ) : Type 0 where
  pub bound : (i : ℕ) → i < count t → InTime (box_floor t) i (slice_index bounds i)
  pub slack : (i : ℕ) → i < count t → slice_index slacks i ≡ (box_floor t).deadline i - slice_index bounds i

-- what was answered, without the value
abbrev pub answer_of : {A E : Type 0} → Result A E → Result (Unit {0}) E
answer_of (Ok a) = Ok tt
answer_of (Err e) = Err e

-- these bytes now stand at the buffer's beginning, r is their number, and the later bytes are as they were
pub record Stands (before bytes : List ℕ) (r : ℕ) (after : List ℕ) : Type 0 where
  pub number : r ≡ length bytes
  pub put_there : after ≡ put before 0 bytes

-- a line for each task with its name, bound and slack
pub record Rows (text : List ℕ) (t : Table) (before : List ℕ) (r : ℕ) (after : List ℕ) : Type 0 where
  pub bounds : List ℕ
  pub slacks : List ℕ
  pub settled : Settled t bounds slacks
  pub lines : Stands before (rows_below text t.tasks bounds slacks (count t)) r after

-- the lines of an accepted floor, or why it is not
abbrev pub Judged : List ℕ → Table → Result (Unit {0}) AnalysisFault → List ℕ → ℕ → List ℕ → Type 0
Judged text t (Ok u) before r after = Rows text t before r after
Judged text t (Err e) before r after = Stands before (refusal_line (analysis_told e)) r after

-- the report on a text that reads as the table
pub record TableReported (text : List ℕ) (t : Table) (before : List ℕ) (r : ℕ) (after : List ℕ) : Type 0 where
  pub answer : Result (Unit {0}) AnalysisFault
  pub verdict : Verdict (box_floor t) 8 16 answer
  pub judged : Judged text t answer before r after

-- the report on a text, by what reading it makes
abbrev pub Reported : List ℕ → Result Table TextFault → List ℕ → ℕ → List ℕ → Type 0
Reported text (Ok t) before r after = TableReported text t before r after
Reported text (Err e) before r after = Stands before (refusal_line (text_told e)) r after

-- what the call answers and leaves: a buffer below 528 bytes is refused and stays as it was
abbrev pub ReportLeaves : List ℕ → List ℕ → Result ℕ ReportFault → List ℕ → Type 0
ReportLeaves text before (Ok n) after = (528 ≤ length before) × Reported text (read_text text) before n after
ReportLeaves text before (Err e) after = (length before < 528) × (after ≡ before)
