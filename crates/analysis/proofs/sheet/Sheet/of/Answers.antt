use Rattle.std.proofs.Common.{refl, sym, ⊎_elim, ◌∙◌, arith}
use Rattle.std.proofs.lemmas.Bool.Decides.{leb_tells}
use Rattle.std.proofs.lemmas.List.{get_or-replicate}
use Rattle.analysis.specs.FloorOf.{floor_of}
use Rattle.analysis.proofs.Sheets.{row-past}
use Rattle.analysis.proofs.sheet.Sheet.of.Goals as goal

pub loop-task-init : goal.loop-task-init
unfolding floor_of
loop-task-init c = record {
  long = refl;
  made = λ k l. absurd (omega arith);
  blank = λ k l m. get_or-replicate 16 k c.blank-rows.result _ m ∙ c.blank-rows.ensures;
}

pub invariant_of-result : goal.invariant_of-result
unfolding floor_of
invariant_of-result c =
    let p = c.args.floor.now in
    let n = c.count-task-end.ensures.value in
    record {
      told = λ i l.
          ⊎_elim
          (λ q. c.loop-task.invariant.blank i (omega (arith, q.1, c.loop-task.auto.task-end)) l ∙ sym (row-past p i (omega (arith, q.1, n))))
          (λ q. c.loop-task.invariant.made i (omega (arith, q.1, c.loop-task-test.false)))
          (leb_tells c.count-task-end.result i);
    }
