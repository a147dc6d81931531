use Rattle.std.proofs.Common.{◌≡◌, ℕ, ◌/◌, ◌<◌, ◌≤◌, get_or}
use Rattle.way_cache.specs.Calls.{written}
use Rattle.way_cache.proofs.marks.run_in.Given as goal

-- the marks of the ways below the loop's are as the call leaves them, all others as they were
abbrev pub invariant-loop-way : goal.invariant-loop-way
invariant-loop-way l = record {
  below : (i : ℕ) → i / 32 < l.way → get_or l.marks i 0 ≡ written l.initial.marks l.task l.ways l.address i;
  rest : (i : ℕ) → l.way ≤ i / 32 → get_or l.marks i 0 ≡ get_or l.initial.marks i 0;
}
