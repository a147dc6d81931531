use Rattle.std.proofs.Common.{◌≡◌, ℕ, suc, ◌+◌, min}
use Rattle.resource.specs.Until.{UntilDone}
use Rattle.resource.proofs.until.scrub_until_done.Given as goal

-- n calls were answered under way: whatever finishes from here finishes from the start, in n calls more
abbrev pub invariant-loop-calls : goal.invariant-loop-calls
invariant-loop-calls g l =
    let m = g.R.Resource.meaning in
    (n : ℕ)
    × (l.calls ≡ min (suc n) 4294967295)
    × ((k : ℕ) (t : _) → UntilDone m l.way l.r k t → UntilDone m l.way l.initial.r (n + k) t)

abbrev pub decreases-loop-calls : goal.decreases-loop-calls
decreases-loop-calls g l = (g.R.Resource.meaning.seen l.r).left l.way
