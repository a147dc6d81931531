use Rattle.std.proofs.Common.{rules, tests}
use Rattle.runs.specs.State.{tainted}
use Rattle.dispatch.specs.View.{floor, state_of}
use Rattle.sets.proofs.Found.{lowest-found}
use Rattle.dispatch.proofs.dispatcher.Dispatcher.first_tainted.Goals as goal

pub returns : goal.returns
returns c =
    let d = c.args.self.now in
    lowest-found 8 (tainted (floor d) (state_of d) c.args.task) _ _ _ c.find.ensures.ran (λ x b q k. search (rules, tests))
