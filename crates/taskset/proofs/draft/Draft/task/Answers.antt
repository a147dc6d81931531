use Rattle.std.proofs.Common.{take, sym, arith}
use Rattle.std.proofs.lemmas.List.{length-take-le}
use Rattle.taskset.proofs.Tables.{task-past, task-there}
use Rattle.taskset.proofs.draft.Draft.task.Goals as goal

pub returns-then-task-self : goal.returns-then-task-self
returns-then-task-self c =
    let d = c.self.inside in
    let i = c.self.invariant in
    rw (← c.self.view_is) (sym (task-there d.tasks d.count c.args.task _ c.if-task-self.true (omega (arith, i.few, i.tasks))))

pub returns-else-task-self : goal.returns-else-task-self
returns-else-task-self c =
    let d = c.self.inside in
    let i = c.self.invariant in
    rw (← c.self.view_is) (sym (task-past (take d.count d.tasks) c.args.task (omega (arith, length-take-le d.count d.tasks (omega (arith, i.few, i.tasks)), c.if-task-self.false))))
