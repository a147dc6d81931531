-- What every plan promises.
use Rattle.std.proofs.Common.{◌≡◌, ℕ, Ok}
use Rattle.taskset.specs.declared.task.Figures.{Figures}
use Rattle.taskset.specs.Table.{IsLawful, task_at, figures_of}
use Rattle.analysis.specs.declared.plan.Plan.{Plan}
use Rattle.analysis.specs.Bounds.{Accepted}
use Rattle.analysis.specs.FloorOf.{FiguresOf}
use Rattle.analysis.specs.Priced.{Priced}
use Rattle.analysis.specs.PlanOf.{plan_table, plan_cost, plan_floor, plan_bound}
use Rattle.analysis.proofs.Floors.{accepted-kept, figures-of}

-- each of its tasks has its bound within its deadline
pub plan-accepted : (p : Plan) → Accepted (plan_floor p) (plan_bound p)
plan-accepted p = accepted-kept (plan_floor p) (plan_bound p) p.accepted

-- its figures are in their ranges, and its pairs are between two different tasks of it
pub plan-lawful : (p : Plan) → IsLawful (plan_table p)
plan-lawful p = p.floor.lawful

-- each way that a task of it uses costs from 1 to 1,000 calls
pub plan-priced : (p : Plan) → Priced (plan_floor p)
plan-priced p = p.priced

-- a task's figures are those of the plan's floor
pub plan-figures : (p : Plan) (i : ℕ) (x : Figures) → figures_of (task_at (plan_table p).tasks i) ≡ Ok x → FiguresOf (plan_floor p) i x
plan-figures p i x e = figures-of (plan_table p) (plan_cost p) i x e
