use Rattle.std.proofs.Common.{◌∙◌}
use Rattle.listing.proofs.Steps.{with_tasks_more}
use Rattle.listing.proofs.Source.list_tasks.Goals as goal

pub loop-i-preserved : goal.loop-i-preserved
loop-i-preserved c =
    c.in_ok-list_task.ensures
    ∙ with_tasks_more _ _ _ c.args.self.draft.now _ _ _ c.tasks-task-items.ensures.value c.loop-i-test.true c.loop-i.invariant
