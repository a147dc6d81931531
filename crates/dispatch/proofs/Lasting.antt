-- The law on the calls, from the law of runs and what holds of every plan.
use Rattle.std.proofs.Common.{◌≡◌, ℕ, zero, suc, ◌<◌, ◌≤◌, Bool, true, false, List, [], ◌∷◌, length, refl, arith, leb-true}
use Rattle.resource.specs.Seen.{Seen}
use Rattle.taskset.specs.declared.task.Figures.{Figures}
use Rattle.taskset.specs.declared.task.Task.{Task}
use Rattle.taskset.specs.Figures.{lawful, all_lawful}
use Rattle.taskset.specs.Table.{noleak}
use Rattle.analysis.specs.declared.plan.Plan.{Plan}
use Rattle.analysis.specs.FloorOf.{floor_of, figures_at}
use Rattle.analysis.specs.PlanOf.{plan_table, plan_figures, plan_floor, plan_bound}
use Rattle.analysis.proofs.Plans.{plan-accepted, plan-lawful}
use Rattle.runs.specs.History.{Event}
use Rattle.runs.specs.Run.{Proper, Step}
use Rattle.runs.proofs.Sums.{and_left, and_right}
use Rattle.runs.proofs.Theorem.{kept_more}
use Rattle.dispatch.specs.declared.dispatcher.Dispatcher.{Dispatcher}
use Rattle.dispatch.specs.View.{plan_of, floor, state_of}
use Rattle.dispatch.specs.Lasting.{GoesOn}
use Rattle.dispatch.proofs.Plans.{plan-tasks, plan_few, uses-there}

-- what is used of figures in their ranges
record InRange (x : Figures) : Type 0 where
  budget : 1 ≤ x.budget
  deadline : 1 ≤ x.deadline
  period : x.deadline ≤ x.period

in-range : (x : Figures) → lawful x ≡ true → InRange x
unfolding lawful
in-range x e =
    let r = and_right _ _ e in
    let d = and_left _ _ (and_right _ _ r) in
    record { budget = leb-true _ _ (and_left _ _ (and_left _ _ r)); deadline = leb-true _ _ (and_left _ _ d); period = leb-true _ _ (and_right _ _ d) }

figures-lawful : (ts : List Task) (i : ℕ) → i < length ts → all_lawful ts ≡ true → lawful (figures_at ts i) ≡ true
unfolding figures_at
figures-lawful [] i l e = absurd (omega arith)
figures-lawful (t ∷ ts) zero l e = and_left _ _ e
figures-lawful (t ∷ ts) (suc i) l e = figures-lawful ts i (omega arith) (and_right _ _ e)

task-in-range : (p : Plan) (i : ℕ) → i < (plan_floor p).tasks → InRange (plan_figures p i)
task-in-range p i l = in-range (plan_figures p i) (figures-lawful (plan_table p).tasks i (omega (arith, plan-tasks p)) (plan-lawful p).figures)

not-true : (b : Bool) → (b ≡ true → ⊥) → b ≡ false
not-true true h = absurd (h refl)
not-true false h = refl

-- every plan's floor has the figures that the law of runs asks for
pub plan-proper : (p : Plan) → Proper (plan_floor p)
unfolding floor_of
plan-proper p = record {
  budgets = λ i l. (task-in-range p i l).budget;
  deadlines = λ i l. (task-in-range p i l).deadline;
  periods = λ i l. (task-in-range p i l).period;
  ways = uses-there p;
  few = plan_few p;
  listed = (plan-lawful p).listed;
  apart = λ i. not-true (noleak (plan_table p) i i) ((plan-lawful p).apart i);
}

-- so a call that keeps the plan and does as the rules say goes on with every run, and keeps the law
pub goes-on : (d : Dispatcher) (x : Seen) (v : Event) (e : Dispatcher) (y : Seen) → plan_of e ≡ plan_of d → Step (floor d) (state_of d) x v (state_of e) y → GoesOn d x v e y
goes-on d x v e y same step =
    let p = plan_of d in
    record { plan = same; step = step; law = λ h run. kept_more (floor d) (plan_bound p) (plan-proper p) (plan-accepted p) v (state_of e) y run step }
