use Rattle.std.proofs.Common.{true, false, sym, ap, ◌∙◌}
use Rattle.analysis.specs.Sheets.{sheet_floor}
use Rattle.analysis.proofs.Demands.{kind-told}
use Rattle.analysis.proofs.Sheets.{row-facts}
use Rattle.analysis.proofs.sheet.Sheet.bound.Goals as goal
use Rattle.taskset.specs.Figures.{is_whole}

pub returns-in-Split : goal.returns-in-Split
returns-in-Split c =
    let r = row-facts c.args.self.now.floor c.args.task c.row.result c.row.ensures in
    kind-told (sheet_floor c.args.self.now) c.args.task false c.split_bound.result (sym (ap is_whole c.in-Split.is) ∙ r.whole) c.split_bound.ensures

pub returns-in-Whole : goal.returns-in-Whole
returns-in-Whole c =
    let r = row-facts c.args.self.now.floor c.args.task c.row.result c.row.ensures in
    kind-told (sheet_floor c.args.self.now) c.args.task true c.whole_bound.result (sym (ap is_whole c.in-Whole.is) ∙ r.whole) c.whole_bound.ensures
