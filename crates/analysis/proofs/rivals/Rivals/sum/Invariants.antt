use Rattle.std.proofs.Common.{◌≡◌, ◌*◌, ◌^◌, ◌≤◌}
use Rattle.analysis.specs.Rivals.{jobs_in, rival_at}
use Rattle.analysis.specs.Sums.{sum_below}
use Rattle.analysis.proofs.rivals.Rivals.sum.Given as goal

abbrev pub invariant-loop-rival : goal.invariant-loop-rival
invariant-loop-rival l = record {
  value : l.sum ≡ sum_below l.rival-index (λ j. jobs_in l.kind l.x (rival_at l.self j).period * (rival_at l.self j).take);
  few : l.sum ≤ l.rival-index * 2 ^ 54;
}
