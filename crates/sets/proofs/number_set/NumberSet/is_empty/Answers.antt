use Rattle.std.proofs.Common.{eqb, ap, ◌∙◌}
use Rattle.sets.specs.declared.number_set.NumberSet.{NumberSet}
use Rattle.sets.specs.Sets.{members_below}
use Rattle.sets.proofs.Sets.{none-tells}
use Rattle.sets.proofs.number_set.NumberSet.is_empty.Goals as goal

pub returns : goal.returns
unfolding members_below
returns g c = ap (λ (s : NumberSet g.row.N). eqb s.bits 0) c.below.ensures.value ∙ none-tells c.args.self
