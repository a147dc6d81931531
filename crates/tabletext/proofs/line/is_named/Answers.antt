use Rattle.std.proofs.Common.{rules, tests}
use Rattle.tabletext.proofs.Find.{named-by}
use Rattle.tabletext.proofs.line.is_named.Goals as goal

pub returns : goal.returns
returns c =
    named-by c.args.text.now c.args.draft.now.tasks c.args.task c.args.name.bytes.now c.name.result c.is_ok_and.result _ c.name.ensures c.is_ok_and.ensures (λ n q. search (rules, tests))
