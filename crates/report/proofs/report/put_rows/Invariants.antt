use Rattle.std.proofs.Common.{◌≡◌, ◌+◌, ◌*◌, ◌≤◌, length, drop}
use Rattle.report.specs.Pages.{Writes}
use Rattle.report.specs.Rows.{rows_below}
use Rattle.report.proofs.report.put_rows.Given as goal

abbrev pub invariant-loop-task : goal.invariant-loop-task
invariant-loop-task l =
    let n = length l.yielded in
    let rows = rows_below l.named.text.now l.named.draft.tasks l.margins.bounds l.margins.slacks n in
    record {
      tasks : l.task-iterator.a.rest.now ≡ drop n l.named.draft.tasks;
      bounds : l.task-iterator.b.a.rest.now ≡ drop n l.margins.bounds;
      slacks : l.task-iterator.b.b.rest.now ≡ drop n l.margins.slacks;
      few : n ≤ length l.named.draft.tasks;
      wrote : Writes l.initial.page rows l.page;
      short : l.page.len ≤ l.initial.page.len + 33 * n;
    }
