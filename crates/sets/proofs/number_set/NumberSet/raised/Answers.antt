use Rattle.std.proofs.Common.{ap, ◌∙◌, sym, arith}
use Rattle.std.proofs.lemmas.Bool.Decides.{nat_tests}
use Rattle.sets.specs.Sets.{has, members_below}
use Rattle.sets.proofs.Members.{member-raised}
use Rattle.sets.proofs.Sets.{below-below, none-below}
use Rattle.sets.proofs.number_set.NumberSet.raised.Goals as goal

pub returns-then-k-lt16 : goal.returns-then-k-lt16
unfolding has
returns-then-k-lt16 g c = record {
  members = λ j. let e = member-raised c.args.self.bits c.args.k 16 j in grind (arith, nat_tests);
  value = c.below.ensures.value ∙ below-below _ g.row.N ∙ ap (λ s. members_below s g.row.N) (sym c.below.ensures.value);
}

pub returns-else-k-lt16-clause-value : goal.returns-else-k-lt16-clause-value
returns-else-k-lt16-clause-value g c = c.empty.ensures.value ∙ none-below g.row.N g.row.N ∙ ap (λ s. members_below s g.row.N) (sym c.empty.ensures.value)
