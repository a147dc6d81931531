use Rattle.std.proofs.Common.{get_or, sym, refl, subst, ◌∙◌}
use Rattle.std.proofs.lemmas.Result.{err_from_is_err_and}
use Rattle.resource.specs.Answers.{told16}
use Rattle.analysis.specs.declared.plan.Plan.{Plan}
use Rattle.analysis.specs.After.{PlanFor}
use Rattle.analysis.specs.Bounds.{Accepted}
use Rattle.analysis.specs.Floor.{Floor}
use Rattle.analysis.specs.Priced.{Priced}
use Rattle.analysis.specs.Verdict.{asked_floor, Ready, Refused, Unsettled}
use Rattle.analysis.proofs.Verdicts.{at_err, priced-asked, priced-from, ready-as, refused_as, unsettled-refused}
use Rattle.analysis.proofs.plan.Plan.verdict.Goals as goal

pub returns-in_err-check : goal.returns-in_err-check
returns-in_err-check g c =
    let p = err_from_is_err_and c.from_residual.result c.from_residual.ensures.1 in
    let x = g.R.Resource.meaning.seen c.args.resource.now in
    let f = asked_floor c.args.draft.now x in
    let e = c.in_err-check.field-0.0 in
    let same = priced-asked c.new-floor.result c.args.draft.now c.of_resource.result x c.new-floor.ensures.draft c.new-floor.ensures.costs c.of_resource.ensures in
    at_err (λ (p : Plan). Ready f x.ways c.args.room × PlanFor c.args.draft.now x p) (λ a. Refused f x.ways c.args.room a) c.from_residual.result e p (refused_as _ f c.way_count-ways.result x.ways c.args.room e same c.way_count-ways.ensures.count c.in_err-check.ensures)

pub returns-in_err-bounds : goal.returns-in_err-bounds
returns-in_err-bounds g c =
    let p = err_from_is_err_and c.from_residual-in_err-bounds.result c.from_residual-in_err-bounds.ensures.1 in
    let x = g.R.Resource.meaning.seen c.args.resource.now in
    let f = asked_floor c.args.draft.now x in
    let e = c.in_err-bounds.field-0.0 in
    let same = priced-asked c.new-floor.result c.args.draft.now c.of_resource.result x c.new-floor.ensures.draft c.new-floor.ensures.costs c.of_resource.ensures in
    let u = subst (λ (h : Floor). Unsettled h e) (c.of.ensures ∙ same) c.in_err-bounds.ensures in
    at_err (λ (p : Plan). Ready f x.ways c.args.room × PlanFor c.args.draft.now x p) (λ a. Refused f x.ways c.args.room a) c.from_residual-in_err-bounds.result e p (unsettled-refused f x.ways c.args.room e (ready-as _ f c.way_count-ways.result x.ways c.args.room same c.way_count-ways.ensures.count c.in_ok-check.ensures) u)

pub invariant_of-result : goal.invariant_of-result
invariant_of-result g c =
    let x = g.R.Resource.meaning.seen c.args.resource.now in
    let f = asked_floor c.args.draft.now x in
    let same = priced-asked c.new-floor.result c.args.draft.now c.of_resource.result x c.new-floor.ensures.draft c.new-floor.ensures.costs c.of_resource.ensures in
    let r = ready-as _ f c.way_count-ways.result x.ways c.args.room same c.way_count-ways.ensures.count c.in_ok-check.ensures in
    record {
      priced = subst Priced (sym same) (priced-from c.args.draft.now x (λ w. told16 (x.cost w)) c.args.room c.way_count-ways.ensures.sound (λ w. refl) r);
      accepted = ∣ subst (λ (h : Floor). Accepted h (λ i. get_or c.in_ok-bounds.bounds i 0)) c.of.ensures c.in_ok-bounds.ensures ∣₁;
    }
