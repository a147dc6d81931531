-- What an analysis leaves.
use Rattle.std.specs.Prelude.{◌≡◌, ℕ, List, Ok, Err, Result}
use Rattle.resource.specs.Answers.{told16}
use Rattle.resource.specs.Seen.{Seen}
use Rattle.taskset.specs.Table.{Table}
use Rattle.analysis.specs.declared.fault.AnalysisFault.{AnalysisFault}
use Rattle.analysis.specs.declared.plan.Plan.{Plan}
use Rattle.analysis.specs.Bounds.{Accepted}
use Rattle.analysis.specs.PlanOf.{plan_table, plan_cost, plan_bound, EmptyPlan}
use Rattle.analysis.specs.Verdict.{asked_floor}
use Rattle.analysis.specs.Written.{Written}

-- the plan of a table on a resource: its draft is the table's, its costs are those answered, and its bounds the tasks' bounds
pub record PlanFor (t : Table) (x : Seen) (p : Plan) : Type 0 where
  pub tasks : plan_table p ≡ t
  pub costs : (w : ℕ) → plan_cost p w ≡ told16 (x.cost w)
  pub bounds : Accepted (asked_floor t x) (plan_bound p)

-- the plan after an analysis: empty where that refused
abbrev pub PlanAfter : Table → Seen → Result (Unit {0}) AnalysisFault → Plan → Type 0
PlanAfter t x (Ok u) p = PlanFor t x p
PlanAfter t x (Err e) p = EmptyPlan p

-- a list after an analysis: as it was where that refused
abbrev pub ListAfter : Result (Unit {0}) AnalysisFault → ℕ → (ℕ → ℕ) → List ℕ → List ℕ → Type 0
ListAfter (Ok u) n value before after = Written n value before after
ListAfter (Err e) n value before after = after ≡ before
