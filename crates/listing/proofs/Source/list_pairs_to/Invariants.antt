use Rattle.std.proofs.Common.{◌≡◌}
use Rattle.listing.specs.Listing.{with_pairs_to}
use Rattle.listing.proofs.Source.list_pairs_to.Given as goal

abbrev pub invariant-loop-from : goal.invariant-loop-from
invariant-loop-from l =
    l.out.items ≡ with_pairs_to l.initial.out.items l.self.text.now l.self.draft.now l.to l.from
