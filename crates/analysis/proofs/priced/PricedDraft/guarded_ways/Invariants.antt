use Rattle.std.proofs.Common.{◌≡◌, ℕ, ◌&&◌}
use Rattle.sets.specs.Below.{some_below}
use Rattle.sets.specs.Sets.{has}
use Rattle.analysis.specs.Charges.{threatens}
use Rattle.analysis.specs.PricedFloor.{priced_floor}
use Rattle.analysis.proofs.priced.PricedDraft.guarded_ways.Given as goal

-- those of the ways that a task before this one threatens
abbrev pub invariant-loop-other : goal.invariant-loop-other
invariant-loop-other l = (w : ℕ) → has l.guarded w ≡ (has l.ways w && some_below l.other (λ k. threatens (priced_floor l.self) k l.task w))
