use Rattle.std.proofs.Common.{ℕ, List, length, sym, ◌∙◌, subst, arith, rules}
use Rattle.report.specs.Pages.{Writes}
use Rattle.report.proofs.Lines.{next-of, one-more, row-short, rows-next, short-next}
use Rattle.report.proofs.Puts.{Writes-nothing, then}
use Rattle.report.proofs.report.put_rows.Goals as goal

pub loop-task-init : goal.loop-task-init
loop-task-init c = record { tasks = search rules; bounds = search rules; slacks = search rules; few = omega arith; wrote = Writes-nothing c.args.page.now; short = omega arith }

pub put_row-requires : goal.put_row-requires
put_row-requires c =
    let m = c.args.margins.now in
    let n = c.args.named.now in
    let l = c.loop-task.invariant in
    let i = length c.loop-task.yielded in
    let s = c.in-Some.ensures.steps in
    let tasks = c.tasks.ensures in
    let t = next-of n.draft.tasks i _ _ (sym l.tasks ∙ s.0) in
    let b = next-of m.bounds i _ _ (sym l.bounds ∙ s.1.0) in
    let k = next-of m.slacks i _ _ (sym l.slacks ∙ s.1.1) in
    let short = short-next n.text.now n.draft m.bounds m.slacks i _ _ _ _ tasks.lawful n.short c.requires.settled t.0 c.within.ensures (t.1 _) (b.1 0) (k.1 0) in
    omega (arith, t.0, tasks.lawful.few, l.short, short.name_short, short.first_short, short.second_short)

pub loop-task-preserved : goal.loop-task-preserved
loop-task-preserved c =
    let m = c.args.margins.now in
    let n = c.args.named.now in
    let l = c.loop-task.invariant in
    let i = length c.loop-task.yielded in
    let s = c.in-Some.ensures.steps in
    let tasks = c.tasks.ensures in
    let t = next-of n.draft.tasks i _ _ (sym l.tasks ∙ s.0) in
    let b = next-of m.bounds i _ _ (sym l.bounds ∙ s.1.0) in
    let k = next-of m.slacks i _ _ (sym l.slacks ∙ s.1.1) in
    let short = short-next n.text.now n.draft m.bounds m.slacks i _ _ _ _ tasks.lawful n.short c.requires.settled t.0 c.within.ensures (t.1 _) (b.1 0) (k.1 0) in
    let more = rows-next n.text.now n.draft.tasks m.bounds m.slacks i _ _ _ _ t.0 c.within.ensures (t.1 _) (b.1 0) (k.1 0) in
    rw (one-more c.loop-task.yielded _) (record {
      tasks = t.2;
      bounds = b.2;
      slacks = k.2;
      few = omega (arith, t.0);
      wrote = subst (λ (r : List ℕ). Writes c.args.page.now r c.put_row.new.self) more (then l.wrote c.put_row.ensures);
      short = omega (arith, row-short _ _ _ short);
    })
