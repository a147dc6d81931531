use Rattle.std.proofs.Common.{arith}
use Rattle.analysis.specs.Sheets.{sheet_floor}
use Rattle.analysis.proofs.Demands.{split-told}
use Rattle.analysis.proofs.Limits.{blocking-few}
use Rattle.analysis.proofs.Sheets.{row-facts}
use Rattle.analysis.proofs.sheet.Sheet.split_bound.Goals as goal

pub overflow_add-load : goal.overflow_add-load
overflow_add-load c =
    let r = row-facts c.args.self.now.floor c.args.task c.row-row.result c.row-row.ensures in
    omega (arith, c.blocking.ensures, blocking-few c.args.self.now.floor c.args.task)

pub overflow_add-load-2 : goal.overflow_add-load-2
overflow_add-load-2 c =
    let r = row-facts c.args.self.now.floor c.args.task c.row-row.result c.row-row.ensures in
    omega (arith, c.blocking.ensures, blocking-few c.args.self.now.floor c.args.task)

pub returns : goal.returns
returns c =
    let r = row-facts c.args.self.now.floor c.args.task c.row-row.result c.row-row.ensures in
    split-told (sheet_floor c.args.self.now) c.args.task c.row-row.result.figures.deadline _ _ c.least.result (omega (arith, c.blocking.ensures, r.budget, r.scrub)) c.rivals.ensures r.deadline c.least.ensures
