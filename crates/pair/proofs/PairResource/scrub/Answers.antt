use Rattle.resource.specs.declared.answer.Progress.TheVariants.{Done, UnderWay}
use Rattle.pair.proofs.Pairs.{pair-scrub}
use Rattle.pair.proofs.PairResource.scrub.Goals as goal

pub returns-then-is_clean : goal.returns-then-is_clean
returns-then-is_clean g c =
    let h = c.step.ensures in
    pair-scrub g.A.Resource.meaning g.B.Resource.meaning c.args.self.now c.args.way c.step.new.self Done h.first h.second h.steps c.if-is_clean.ensures

pub returns-else-is_clean : goal.returns-else-is_clean
returns-else-is_clean g c =
    let h = c.step.ensures in
    pair-scrub g.A.Resource.meaning g.B.Resource.meaning c.args.self.now c.args.way c.step.new.self UnderWay h.first h.second h.steps c.if-is_clean.ensures
