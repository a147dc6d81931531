use Rattle.std.proofs.Common.{sym, arith}
use borrow.Author.Tests.{eqb-false}
use Rattle.analysis.specs.PlanOf.{plan_floor}
use Rattle.dispatch.proofs.Plans.{plan-tasks, plan-ways}
use Rattle.dispatch.proofs.Starts.{other-found, none-found}
use Rattle.dispatch.proofs.dispatcher.start.may_start.Goals as goal

pub returns-in-Some : goal.returns-in-Some
returns-in-Some g c =
    let p = c.args.plan.now in
    let ne = eqb-false _ _ (sym c.if-is_empty.ensures) in
    sym (other-found (plan_floor p) _ (omega (arith, plan-tasks p, ne)) (plan-ways p) c.in-Some.way c.in-Some.ensures)

pub returns-in-None : goal.returns-in-None
returns-in-None g c =
    let p = c.args.plan.now in
    let ne = eqb-false _ _ (sym c.if-is_empty.ensures) in
    sym (none-found (plan_floor p) _ (omega (arith, plan-tasks p, ne)) (plan-ways p) c.in-None.ensures)
