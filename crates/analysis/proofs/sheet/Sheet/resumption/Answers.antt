use Rattle.std.proofs.Common.{arith}
use Rattle.std.proofs.lemmas.Bool.Decides.{nat_tests}
use Rattle.analysis.proofs.Sheets.{row-facts}
use Rattle.analysis.proofs.sheet.Sheet.resumption.Goals as goal

pub returns-then-not-is_whole : goal.returns-then-not-is_whole
returns-then-not-is_whole c = let r = row-facts c.args.self.now.floor c.args.k c.row-row.result c.row-row.ensures in grind (arith, nat_tests, r.whole, r.scrub)

pub returns-else-j-k : goal.returns-else-j-k
returns-else-j-k c = let r = row-facts c.args.self.now.floor c.args.k c.row-row.result c.row-row.ensures in grind (arith, nat_tests, r.whole)
