use Rattle.std.proofs.Common.{◌∙◌}
use Rattle.analysis.specs.FloorOf.{floor_of}
use Rattle.analysis.proofs.Floors.{pair-or-none}
use Rattle.analysis.proofs.priced.PricedDraft.is_apart.Goals as goal

pub returns : goal.returns
unfolding floor_of
returns c = c.unwrap_or.ensures ∙ pair-or-none c.args.self.now.draft c.args.self.now.lawful c.args.from c.args.to _ c.has_pair.ensures
