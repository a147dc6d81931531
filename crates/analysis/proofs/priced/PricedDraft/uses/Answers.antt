use Rattle.std.proofs.Common.{ap, ◌∙◌}
use Rattle.sets.specs.Sets.{has}
use Rattle.taskset.specs.declared.task.Figures.{Figures}
use Rattle.analysis.specs.FloorOf.{floor_of}
use Rattle.analysis.proofs.priced.PricedDraft.uses.Goals as goal

pub returns : goal.returns
unfolding floor_of
returns c = c.contains.ensures ∙ ap (λ (f : Figures). has f.ways c.args.way) c.figures_at.ensures
