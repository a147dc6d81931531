use Rattle.std.proofs.Common.{◌≡◌, ◌+◌, ◌<◌, List, set, sym, ap, ap₂, ◌∙◌, subst, arith, length-set}
use Rattle.std.proofs.lemmas.List.{length-take-le, take_more_set, drop-set-lt}
use Rattle.sets.specs.Sets.{TaskSet, nobody}
use Rattle.taskset.specs.declared.task.Task.{Task}
use Rattle.taskset.specs.Places.{no_task, table_in, IsTidy}
use Rattle.taskset.specs.declared.draft.Draft.TheInside.{Inside}
use Rattle.taskset.specs.Table.{Table, IsLawful, count, noleak, with_task}
use Rattle.taskset.proofs.Places.{blank-more, used-more}
use Rattle.taskset.proofs.Tables.{lawful-task, noleak-task}
use Rattle.taskset.proofs.draft.Draft.push.Goals as goal

room : (d : Inside) → IsTidy d → count (table_in d) < 16 → d.count < 16
room d i h = let k = length-take-le d.count d.tasks (omega (arith, i.few, i.tasks)) in omega arith

-- the places after the task came in, as a table
pushed : (d : Inside) (task : Task) → IsTidy d → d.count < 16 → table_in (record { count = d.count + 1; tasks = set d.tasks d.count task; pairs = d.pairs }) ≡ with_task (table_in d) task
pushed d task i r =
    ap₂ (λ (x : List Task) (y : List TaskSet). let t : Table = record { tasks = x; pairs = y } in t) (take_more_set d.tasks d.count task (omega (arith, i.tasks))) (used-more (nobody 16) d.count d.pairs r i.unused)

pub invariant_of-self : goal.invariant_of-self
invariant_of-self c =
    let d = c.self.inside in
    let i = c.self.invariant in
    let h : count (table_in d) < 16 = subst (λ t. count t < 16) (sym c.self.view_is) c.requires.room in
    let r = room d i h in
    record {
      few = omega arith;
      tasks = length-set d.tasks d.count c.args.task ∙ i.tasks;
      pairs = i.pairs;
      unused = blank-more (nobody 16) d.count d.pairs r i.unused;
      blank = drop-set-lt (d.count + 1) d.tasks d.count c.args.task (omega arith) ∙ blank-more no_task d.count d.tasks r i.blank;
      lawful = subst IsLawful (sym (pushed d c.args.task i r)) (lawful-task (table_in d) c.args.task i.lawful h c.requires.figures);
    }

pub returns : goal.returns
returns c =
    let d = c.self.inside in
    let i = c.self.invariant in
    let h : count (table_in d) < 16 = subst (λ t. count t < 16) (sym c.self.view_is) c.requires.room in
    let new = pushed d c.args.task i (room d i h) in
    record {
      value = new ∙ ap (λ t. with_task t c.args.task) c.self.view_is;
      pairs = λ k j. ap (λ t. noleak t k j) new ∙ noleak-task (table_in d) c.args.task k j ∙ ap (λ t. noleak t k j) c.self.view_is;
    }
