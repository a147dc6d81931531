use Rattle.std.proofs.Common.{ℕ, MatchOption, rules, subst, tests}
use Rattle.sets.specs.Below.{IsLowest, NoneBelow}
use Rattle.sets.proofs.Found.{lowest-found}
use Rattle.analysis.specs.PricedFloor.{priced_floor}
use Rattle.analysis.specs.Verdict.{strays}
use Rattle.analysis.proofs.check.first_stray.Goals as goal

pub returns : goal.returns
returns c =
    let test = strays (priced_floor c.args.floor.now) c.args.ways in
    subst (λ (n : ℕ). MatchOption c.find.result (NoneBelow n test) (IsLowest n test)) c.count.ensures.value (lowest-found _ test _ _ _ c.find.ensures.ran (λ x b q k. search (rules, tests)))
