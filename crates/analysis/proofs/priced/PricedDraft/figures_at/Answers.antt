use Rattle.analysis.proofs.Floors.{figures-or-none}
use Rattle.analysis.proofs.priced.PricedDraft.figures_at.Goals as goal

pub returns : goal.returns
returns c = rw (c.unwrap_or.ensures, c.blank.ensures, c.figures.ensures) (figures-or-none c.args.self.now.draft.tasks c.args.task)
