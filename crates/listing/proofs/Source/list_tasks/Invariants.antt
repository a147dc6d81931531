use Rattle.std.proofs.Common.{◌≡◌}
use Rattle.listing.specs.Listing.{with_tasks}
use Rattle.listing.proofs.Source.list_tasks.Given as goal

abbrev pub invariant-loop-i : goal.invariant-loop-i
invariant-loop-i l =
    l.out.items ≡ with_tasks l.initial.out.items l.self.text.now l.self.draft.now l.i
