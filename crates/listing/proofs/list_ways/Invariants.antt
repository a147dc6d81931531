use Rattle.std.proofs.Common.{◌≡◌}
use Rattle.listing.specs.Listing.{with_ways}
use Rattle.listing.proofs.list_ways.Given as goal

abbrev pub invariant-loop-way : goal.invariant-loop-way
invariant-loop-way l = l.out.items ≡ with_ways l.initial.out.items l.ways l.way
