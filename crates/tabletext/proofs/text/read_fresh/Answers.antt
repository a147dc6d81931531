use Rattle.std.proofs.Common.{List, sym, ap, ◌∙◌}
use Rattle.std.proofs.lemmas.Result.{err_from_is_err_and}
use Rattle.taskset.specs.Table.{Table}
use Rattle.textparts.specs.Spans.{Span}
use Rattle.textparts.specs.Tokens.{Token}
use Rattle.textparts.specs.View.{line_of, left, to_come}
use Rattle.tabletext.specs.Lines.{rest_read}
use Rattle.tabletext.specs.Read.{onward, read_lines}
use Rattle.tabletext.proofs.Answer.{stopped}
use Rattle.tabletext.proofs.text.read_fresh.Goals as goal

pub returns-in_err-read_placed : goal.returns-in_err-read_placed
returns-in_err-read_placed c =
    let b = c.loop-line.building in
    let line = c.in-Some.line in
    let l = line_of line in
    let further = λ (u : Table). read_lines b.text.now u (to_come c.next_line.new.self) in
    let off = stopped l.place (rest_read b.text.now b.draft l (left line)) c.in_err-read_placed.field-0.0 further c.in_err-read_placed.ensures.later in
    let p = err_from_is_err_and c.from_residual.result c.from_residual.ensures.1 in
    rw (p.1, p.2)
    (sym (c.loop-line.invariant ∙ ap (λ (ls : List Span). read_lines b.text.now b.draft ls) c.in-Some.ensures.steps ∙ ap (λ (ts : List Token). onward further l.place (rest_read b.text.now b.draft l ts)) (sym c.in-Some.ensures.fresh) ∙ off))
