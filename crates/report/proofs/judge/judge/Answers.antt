use Rattle.std.proofs.Common.{ℕ, Ok, subst}
use Rattle.analysis.specs.Floor.{Floor}
use Rattle.analysis.specs.Verdict.{Verdict}
use Rattle.way_cache.specs.Marks.{ways_in}
use Rattle.report.specs.Report.{box_floor}
use Rattle.report.proofs.Box.{asked-box, eight-ways, empty-marks, settled}
use Rattle.report.proofs.judge.judge.Goals as goal

pub returns-clause-verdict : goal.returns-clause-verdict
returns-clause-verdict c =
    let t = c.args.draft.now in
    let marks = c.empty_over-cache.result.marks.now in
    let long = empty-marks marks c.empty_over-cache.ensures.marks in
    subst (λ (w : ℕ). Verdict (box_floor t) w 16 (Ok tt)) (eight-ways marks long)
    (subst (λ (f : Floor). Verdict f (ways_in marks) 16 (Ok tt)) (asked-box t marks long) c.in_ok-analyse.ensures.verdict)

pub returns-clause-settled : goal.returns-clause-settled
returns-clause-settled c =
    let long = empty-marks c.empty_over-cache.result.marks.now c.empty_over-cache.ensures.marks in
    let box = asked-box c.args.draft.now _ long in
    let left = c.in_ok-analyse.ensures in
    settled _ _ _ _ _ _ _ box left.later left.bound_list left.slack_list
