-- What a plan's table says as a floor.
use Rattle.std.proofs.Common.{◌≡◌, ℕ, zero, suc, ◌<◌, ◌≤◌, true, List, [], ◌∷◌, length, Ok, refl, arith, ltb-true}
use Rattle.sets.specs.Sets.{has}
use Rattle.taskset.specs.declared.task.Task.{Task}
use Rattle.taskset.specs.Table.{count, task_at, figures_of}
use Rattle.analysis.specs.declared.plan.Plan.{Plan}
use Rattle.analysis.specs.FloorOf.{floor_of, figures_at, FiguresOf}
use Rattle.analysis.specs.PlanOf.{plan_table, plan_figures, plan_floor}
use Rattle.analysis.proofs.Plans.{plan-lawful}
use Rattle.runs.proofs.Sums.{and_left}

pub plan-tasks : (p : Plan) → (plan_floor p).tasks ≡ count (plan_table p)
unfolding floor_of
plan-tasks p = refl

pub plan-ways : (p : Plan) → (plan_floor p).ways ≡ 8
unfolding floor_of
plan-ways p = refl

pub plan_few : (p : Plan) → (plan_floor p).tasks ≤ 16
plan_few p = omega (arith, (plan-lawful p).few, plan-tasks p)

-- a listed task's figures are there
figures-there : (ts : List Task) (i : ℕ) → i < length ts → figures_of (task_at ts i) ≡ Ok (figures_at ts i)
unfolding figures_at
figures-there [] i l = absurd (omega arith)
figures-there (t ∷ ts) zero l = refl
figures-there (t ∷ ts) (suc i) l = figures-there ts i (omega arith)

pub task-there : (p : Plan) (i : ℕ) → i < (plan_floor p).tasks → figures_of (task_at (plan_table p).tasks i) ≡ Ok (plan_figures p i)
task-there p i l = figures-there (plan_table p).tasks i (omega (arith, plan-tasks p))

-- and are those of the floor
pub task-figures : (p : Plan) (i : ℕ) → i < (plan_floor p).tasks → FiguresOf (plan_floor p) i (plan_figures p i)
unfolding floor_of
task-figures p i l = record { listed = l; period = refl; budget = refl; deadline = refl; whole = refl; uses = λ w. refl }

-- a task uses only ways that are there
pub uses-there : (p : Plan) (i w : ℕ) → (plan_floor p).uses i w ≡ true → w < (plan_floor p).ways
unfolding floor_of has
uses-there p i w e = ltb-true w 8 (and_left _ _ (and_left _ _ e))
