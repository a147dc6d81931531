use Rattle.std.proofs.Common.{rules, tests, ◌∙◌}
use Rattle.analysis.specs.Charges.{resume_below, resumption}
use Rattle.analysis.specs.Sheets.{sheet_floor}
use Rattle.analysis.proofs.Chains.{most-found}
use Rattle.analysis.proofs.sheet.Sheet.resume_below.Goals as goal

pub returns : goal.returns
unfolding resume_below
returns c = c.unwrap_or.ensures ∙ most-found c.args.m (resumption (sheet_floor c.args.self.now) c.args.j) _ _ _ c.map-costs.ensures.source c.map-costs.ensures.closure c.max.ensures.ran (λ x y q k. search (rules, tests))
