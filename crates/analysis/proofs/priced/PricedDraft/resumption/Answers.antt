use Rattle.std.proofs.Common.{ap, ◌∙◌, arith}
use Rattle.std.proofs.lemmas.Bool.Decides.{nat_tests}
use Rattle.taskset.specs.declared.task.Figures.{Figures}
use Rattle.taskset.specs.Figures.{is_whole}
use Rattle.analysis.specs.FloorOf.{floor_of}
use Rattle.analysis.proofs.Sheets.{row-facts}
use Rattle.analysis.proofs.priced.PricedDraft.resumption.Goals as goal

pub returns-then-not-is_whole : goal.returns-then-not-is_whole
unfolding floor_of
returns-then-not-is_whole c =
    let its = c.is_whole-is_whole.ensures ∙ ap (λ (x : Figures). is_whole x.kind) c.figures_at.ensures in
    let r = row-facts c.args.self.now c.args.k c.row.result c.row.ensures in
    grind (arith, nat_tests, its, r.scrub)

pub returns-else-j-k : goal.returns-else-j-k
unfolding floor_of
returns-else-j-k c =
    let its = c.is_whole-is_whole.ensures ∙ ap (λ (x : Figures). is_whole x.kind) c.figures_at.ensures in
    grind (arith, nat_tests, its)
