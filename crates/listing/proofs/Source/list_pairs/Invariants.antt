use Rattle.std.proofs.Common.{◌≡◌}
use Rattle.listing.specs.Listing.{with_pairs}
use Rattle.listing.proofs.Source.list_pairs.Given as goal

abbrev pub invariant-loop-to : goal.invariant-loop-to
invariant-loop-to l =
    l.out.items ≡ with_pairs l.initial.out.items l.self.text.now l.self.draft.now l.to
