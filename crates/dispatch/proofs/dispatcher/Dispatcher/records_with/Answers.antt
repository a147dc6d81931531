use Rattle.std.proofs.Common.{◌≡◌, ℕ, ◌%◌, ◌&&◌, ◌||◌, eqb, get_or, rules, tests, subst, mod-eq_of_lt}
use Rattle.sets.specs.Sets.{has, TaskSet, WaySet}
use Rattle.taskset.specs.declared.task.Figures.{Figures}
use Rattle.analysis.specs.FloorOf.{floor_of}
use Rattle.dispatch.specs.View.{record_at}
use Rattle.analysis.proofs.FromFn.{from-each}
use Rattle.dispatch.proofs.dispatcher.Dispatcher.records_with.Goals as goal

pub returns : goal.returns
unfolding floor_of
returns c w l k =
    let i = c.args.task in
    let made = λ (ways : WaySet) (w : ℕ) (s : TaskSet). has s k ≡ (record_at c.args.self.now.records w k || (eqb k i && has ways w)) in
    let s = get_or c.from_fn.result w (record { bits = 0 }) in
    let ways = c.figures_at.result.ways in
    subst (λ (f : Figures). made f.ways w s) c.figures_at.ensures (subst (λ (v : ℕ). made ways v s) (mod-eq_of_lt l)
    (from-each (λ (v : ℕ) (s : TaskSet). made ways (v % 8) s) _ _ (λ i y q e. search (rules, tests)) 8 c.from_fn.ensures.items w (record { bits = 0 }) l))
