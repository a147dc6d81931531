use Rattle.std.proofs.Common.{rules, tests, ap, ap₂, ◌+◌, ◌∙◌, arith}
use Rattle.analysis.specs.Charges.{allowance, resume_below, resumption}
use Rattle.analysis.specs.PricedFloor.{priced_floor}
use Rattle.analysis.proofs.Chains.{most-found}
use Rattle.analysis.proofs.Limits.{resume-few}
use Rattle.analysis.proofs.Sheets.{row-facts}
use Rattle.analysis.proofs.priced.PricedDraft.allowance.Goals as goal

pub overflow_add-result : goal.overflow_add-result
unfolding resume_below
overflow_add-result c =
    let f = priced_floor c.args.self.now in
    let most = c.unwrap_or.ensures ∙ most-found c.count.result (resumption f c.args.j) _ _ _ c.map-costs.ensures.source c.map-costs.ensures.closure c.max.ensures.ran (λ x y q k. search (rules, tests)) in
    let r = row-facts c.args.self.now c.args.j c.row.result c.row.ensures in
    omega (arith, most, resume-few c.args.self.now c.args.j c.count.result, r.scrub_few)

pub returns : goal.returns
unfolding allowance resume_below
returns c =
    let f = priced_floor c.args.self.now in
    let most = c.unwrap_or.ensures ∙ most-found c.count.result (resumption f c.args.j) _ _ _ c.map-costs.ensures.source c.map-costs.ensures.closure c.max.ensures.ran (λ x y q k. search (rules, tests)) in
    let r = row-facts c.args.self.now c.args.j c.row.result c.row.ensures in
    ap₂ (λ a b. a + b) r.scrub (most ∙ ap (resume_below f c.args.j) c.count.ensures.value)
