use Rattle.std.proofs.Common.{ap, ◌∙◌}
use Rattle.row_banks.specs.Banks.{vacant}
use Rattle.row_banks.proofs.Vacant.{vacant-clean}
use Rattle.row_banks.proofs.banks.RowBanksResource.is_clean.Goals as goal

pub returns : goal.returns
returns c = c.is_vacant.ensures ∙ ap vacant c.bank.ensures ∙ vacant-clean c.args.self.now c.args.way
