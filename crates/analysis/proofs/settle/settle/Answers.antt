use Rattle.std.proofs.Common.{ℕ, List, get_or, sym, ◌∙◌, arith}
use Rattle.std.proofs.lemmas.Result.{err_from_is_err_and}
use Rattle.analysis.specs.Bounds.{Accepted}
use Rattle.analysis.specs.Sheets.{sheet_floor}
use Rattle.analysis.specs.Verdict.{Unsettled}
use Rattle.analysis.proofs.Verdicts.{at_err, bound-refused}
use Rattle.analysis.proofs.settle.settle.Goals as goal

pub returns-in_err-bounds : goal.returns-in_err-bounds
returns-in_err-bounds c =
    let f = sheet_floor c.args.sheet.now in
    let e = c.in_err-bounds.field-0.0 in
    let p = err_from_is_err_and c.from_residual.result c.from_residual.ensures.1 in
    let r = bound-refused f c.loop-task.task c.bound.result e c.bound.ensures (sym c.ok_or.ensures.value ∙ c.in_err-bounds.was) (omega arith) (λ k l. (get_or c.loop-task.bounds k 0, c.loop-task.invariant.each k l)) in
    at_err (λ (bounds : List ℕ). Accepted f (λ i. get_or bounds i 0)) (Unsettled f) c.from_residual.result e p r
