use Rattle.runs.specs.Run.{start}
use Rattle.dispatch.proofs.dispatcher.Dispatcher.start.Goals as goal

pub returns-clause-law : goal.returns-clause-law
returns-clause-law g c = start c.begin.ensures.started
