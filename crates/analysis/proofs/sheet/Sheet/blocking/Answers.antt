use Rattle.std.proofs.Common.{ℕ, rules, tests, ap, ◌∙◌}
use Rattle.analysis.specs.Charges.{block, blocking}
use Rattle.analysis.specs.Sheets.{sheet_floor}
use Rattle.analysis.specs.Sums.{most_below}
use Rattle.analysis.proofs.Chains.{most-found}
use Rattle.analysis.proofs.sheet.Sheet.blocking.Goals as goal

pub returns : goal.returns
unfolding blocking
returns c =
    let hold = block (sheet_floor c.args.self.now) c.args.i in
    c.unwrap_or.ensures ∙ most-found c.count.result hold _ _ _ c.map-blocks.ensures.source c.map-blocks.ensures.closure c.max.ensures.ran (λ x y q k. search (rules, tests)) ∙ ap (λ (n : ℕ). most_below n hold) c.count.ensures.value
