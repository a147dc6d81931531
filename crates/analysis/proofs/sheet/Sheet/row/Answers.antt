use Rattle.std.proofs.Common.{sym, ◌∙◌, arith}
use Rattle.analysis.proofs.Sheets.{row-past}
use Rattle.analysis.proofs.sheet.Sheet.row.Goals as goal

pub returns-else-task-lt16 : goal.returns-else-task-lt16
returns-else-task-lt16 c = let p = c.args.self.now.floor in c.blank.ensures ∙ sym (row-past p c.args.task (omega (arith, p.lawful.few)))
