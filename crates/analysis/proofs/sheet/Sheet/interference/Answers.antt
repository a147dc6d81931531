use Rattle.std.proofs.Common.{◌+◌, add-one, arith}
use Rattle.analysis.specs.Charges.{interference, resume_cost}
use Rattle.analysis.proofs.Floors.{sixteen}
use Rattle.analysis.proofs.Limits.{resume-few}
use Rattle.analysis.proofs.Sheets.{row-facts}
use Rattle.analysis.proofs.sheet.Sheet.interference.Goals as goal

pub overflow_add-result : goal.overflow_add-result
overflow_add-result c = let r = row-facts c.args.self.now.floor c.args.j c.row-row.result c.row-row.ensures in omega arith

pub overflow_add-i : goal.overflow_add-i
overflow_add-i c = omega (arith, sixteen c.args.self.now.floor)

pub overflow_add-result-2 : goal.overflow_add-result-2
overflow_add-result-2 c =
    let r = row-facts c.args.self.now.floor c.args.j c.row-row.result c.row-row.ensures in
    omega (arith, c.resume_below.ensures, resume-few c.args.self.now.floor c.args.j (c.args.i + 1))

pub returns : goal.returns
unfolding interference resume_cost
returns c =
    let r = row-facts c.args.self.now.floor c.args.j c.row-row.result c.row-row.ensures in
    let m = rw add-one at c.resume_below.ensures in
    omega (arith, m)
