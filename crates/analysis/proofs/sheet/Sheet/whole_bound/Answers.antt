use Rattle.std.proofs.Common.{arith}
use Rattle.analysis.specs.Sheets.{sheet_floor}
use Rattle.analysis.proofs.Demands.{whole_long, whole-met, whole-missed}
use Rattle.analysis.proofs.Sheets.{row-facts}
use Rattle.analysis.proofs.sheet.Sheet.whole_bound.Goals as goal

pub overflow_add-job : goal.overflow_add-job
overflow_add-job c = let r = row-facts c.args.self.now.floor c.args.task c.row-row.result c.row-row.ensures in omega arith

pub returns-then-job-row : goal.returns-then-job-row
returns-then-job-row c =
    let r = row-facts c.args.self.now.floor c.args.task c.row-row.result c.row-row.ensures in
    whole_long (sheet_floor c.args.self.now) c.args.task c.row-row.result.figures.deadline _ r.deadline (omega (arith, r.budget, r.scrub)) c.if-job-row.true

pub returns-in_err-start : goal.returns-in_err-start
returns-in_err-start c =
    let r = row-facts c.args.self.now.floor c.args.task c.row-row.result c.row-row.ensures in
    rw c.from_residual.ensures (whole-missed (sheet_floor c.args.self.now) c.args.task c.row-row.result.figures.deadline _ _ _ c.blocking.ensures c.rivals.ensures r.deadline (omega (arith, r.budget, r.scrub)) c.in_err-start.ensures)

pub returns : goal.returns
returns c =
    let r = row-facts c.args.self.now.floor c.args.task c.row-row.result c.row-row.ensures in
    whole-met (sheet_floor c.args.self.now) c.args.task c.row-row.result.figures.deadline _ c.in_ok-start.start _ _ c.blocking.ensures c.rivals.ensures r.deadline (omega (arith, r.budget, r.scrub)) c.if-job-row.false c.in_ok-start.ensures
