use Rattle.std.proofs.Common.{sym, subst}
use Rattle.std.proofs.lemmas.Result.{err_from_is_err_and}
use Rattle.refusal.specs.Outcome.{after, answered}
use Rattle.taskset.specs.Table.{nothing}
use Rattle.tabletext.specs.Laws.{ReadLaws}
use Rattle.tabletext.proofs.TextLaw.{text-laws}
use Rattle.tabletext.proofs.text.read.Goals as goal

pub returns-in_err-draft-clause-laws : goal.returns-in_err-draft-clause-laws
returns-in_err-draft-clause-laws c =
    let text = c.args.text.now in
    let p = err_from_is_err_and c.from_residual.result c.from_residual.ensures.1 in
    rw (p.1, p.2, c.empty.ensures)
    (subst (λ r. ReadLaws text (answered tt r) (after nothing r)) (sym c.in_err-draft.ensures) (text-laws text))

pub returns-clause-laws : goal.returns-clause-laws
returns-clause-laws c =
    let text = c.args.text.now in
    subst (λ r. ReadLaws text (answered tt r) (after nothing r)) (sym c.in_ok-draft.ensures) (text-laws text)
