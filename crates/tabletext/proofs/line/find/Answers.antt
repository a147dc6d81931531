use Rattle.std.proofs.Common.{ℕ, rules, tests}
use Rattle.sets.proofs.Found.{lowest-found}
use Rattle.tabletext.specs.Laws.{is_named}
use Rattle.tabletext.proofs.Find.{found-lowest}
use Rattle.tabletext.proofs.line.find.Goals as goal

pub returns : goal.returns
returns c =
    let named = λ (k : ℕ). is_named c.args.text.now c.args.draft.now.tasks k c.args.name.bytes.now in
    found-lowest c.args.text.now c.args.draft.now.tasks c.args.name.bytes.now c.count.result c.find.result c.count.ensures.value
    (lowest-found c.count.result named _ _ c.find.result c.find.ensures.ran (λ x b q k. search (rules, tests)))
