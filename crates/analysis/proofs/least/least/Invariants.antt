use Rattle.std.proofs.Common.{ℕ, ◌+◌, ◌-◌, ◌≤◌}
use Rattle.analysis.proofs.least.least.Given as goal

-- whatever number meets the demand is x or past it
abbrev pub invariant-loop-x : goal.invariant-loop-x
invariant-loop-x g l = (l.low ≤ l.x) × ((y : ℕ) → l.low ≤ y → g.D.Demand.sum l.demand y ≤ y → l.x ≤ y)

abbrev pub decreases-loop-x : goal.decreases-loop-x
decreases-loop-x g l = l.limit + 1 - l.x
