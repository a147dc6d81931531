use Rattle.analysis.specs.FloorOf.{floor_of}
use Rattle.analysis.proofs.priced.PricedDraft.count.Goals as goal

pub returns-clause-value : goal.returns-clause-value
unfolding floor_of
returns-clause-value c = c.args.self.now.counted
