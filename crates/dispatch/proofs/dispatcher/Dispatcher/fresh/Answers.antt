use Rattle.std.proofs.Common.{refl}
use Rattle.runs.specs.State.{fresh}
use Rattle.dispatch.specs.View.{state_of}
use Rattle.dispatch.proofs.Later.{nothing-recorded}
use Rattle.dispatch.proofs.Starts.{started}
use Rattle.dispatch.proofs.dispatcher.Dispatcher.fresh.Goals as goal

pub returns-clause-state : goal.returns-clause-state
unfolding state_of fresh
returns-clause-state c =
    let jobs = c.first_jobs.ensures in
    record {
      age = jobs.age;
      left = jobs.left;
      holder = refl;
      under = refl;
      ran = refl;
      recorded = λ w k l m. nothing-recorded c.empty.result c.empty.ensures.members 8 w k;
    }

pub returns-clause-started : goal.returns-clause-started
returns-clause-started c y ready = started c.args.plan.now _ refl (returns-clause-state c) y ready
