use Rattle.std.proofs.Common.{arith}
use Rattle.analysis.specs.Charges.{hold_cost}
use Rattle.analysis.proofs.Sheets.{row-facts}
use Rattle.analysis.proofs.sheet.Sheet.hold.Goals as goal

pub overflow_add-row : goal.overflow_add-row
overflow_add-row c = let r = row-facts c.args.self.now.floor c.args.l c.row-row.result c.row-row.ensures in omega arith

pub returns-in-Split : goal.returns-in-Split
unfolding hold_cost
returns-in-Split c = let r = row-facts c.args.self.now.floor c.args.l c.row-row.result c.row-row.ensures in grind (arith, r.whole, r.dearest, c.saturating_sub.ensures)

pub returns-in-Whole : goal.returns-in-Whole
unfolding hold_cost
returns-in-Whole c = let r = row-facts c.args.self.now.floor c.args.l c.row-row.result c.row-row.ensures in grind (arith, r.whole, r.scrub, r.budget, c.saturating_sub-in-Whole.ensures)
