-- What a plan holds.
use Rattle.std.specs.Prelude.{◌≡◌, ℕ, ◌-◌, cond, Ok, Err, Result, nat_lt, slice_index}
use Rattle.taskset.specs.declared.fault.DraftFault.{DraftFault}
use Rattle.taskset.specs.declared.fault.DraftFault.TheVariants.{Unlisted}
use Rattle.taskset.specs.declared.task.Figures.{Figures}
use Rattle.taskset.specs.Table.{Table, count, nothing}
use Rattle.analysis.specs.declared.plan.Plan.{Plan}
use Rattle.analysis.specs.Charges.{allowance}
use Rattle.analysis.specs.Costs.{cost_of}
use Rattle.analysis.specs.Floor.{Floor}
use Rattle.analysis.specs.FloorOf.{figures_at, floor_of}

-- the table of its draft
abbrev pub plan_table : Plan → Table
plan_table p = p.floor.draft

-- the costs that it was accepted on
abbrev pub plan_cost : Plan → ℕ → ℕ
plan_cost p w = cost_of p.floor.costs w

-- its floor
abbrev pub plan_floor : Plan → Floor
plan_floor p = floor_of (plan_table p) (plan_cost p)

-- the figures of each task; all 0, without a way, where there is none
abbrev pub plan_figures : Plan → ℕ → Figures
plan_figures p i = figures_at (plan_table p).tasks i

-- the bound of each task
abbrev pub plan_bound : Plan → ℕ → ℕ
plan_bound p i = slice_index p.bounds i

-- the slack of each task: its deadline less its bound
abbrev pub plan_slack : Plan → ℕ → ℕ
plan_slack p i = (plan_floor p).deadline i - plan_bound p i

-- the plan without a task
pub record EmptyPlan (p : Plan) : Type 0 where
  pub tasks : plan_table p ≡ nothing
  pub costs : (w : ℕ) → plan_cost p w ≡ 0
  pub bounds : (i : ℕ) → plan_bound p i ≡ 0

-- the bound of the task of a number
abbrev pub bound_asked : Plan → ℕ → Result ℕ DraftFault
bound_asked p i = cond (nat_lt i (count (plan_table p))) (Ok (plan_bound p i)) (Err Unlisted)

-- the ticks of scrubbing that one job of the task of a number brings into a run
abbrev pub allowance_asked : Plan → ℕ → Result ℕ DraftFault
allowance_asked p i = cond (nat_lt i (count (plan_table p))) (Ok (allowance (plan_floor p) i)) (Err Unlisted)
