use Rattle.std.proofs.Common.{◌≡◌, eqb, length, ap, ◌∙◌, rules, tests}
use Rattle.std.specs.List.{take_while}
use Rattle.std.proofs.lemmas.Iterator.{YieldsList-from_slice}
use Rattle.std.proofs.lemmas.Iterator.Consumers.{YieldsList-at, count_from_yields_List}
use Rattle.std.proofs.lemmas.Iterator.Search.{YieldsList-from_take_while}
use Rattle.std.proofs.lemmas.List.Folds.{length-prefix_len}
use Rattle.textparts.specs.Bytes.{has}
use Rattle.textparts.proofs.Runs.{run-all}
use Rattle.textparts.proofs.bytes.Class.run.Goals as goal

pub returns-clause-whole : goal.returns-clause-whole
returns-clause-whole c =
    let p = has c.args.self in
    let bytes = c.args.bytes.now in
    let taken : c.count.result ≡ length (take_while p bytes) = count_from_yields_List c.take_while.result _ c.count.ensures.ran (YieldsList-from_take_while _ p (YieldsList-at c.take_while.ensures.source (YieldsList-from_slice bytes cc)) c.take_while.ensures.closure c.take_while.ensures.done (λ x b q k. search (rules, tests))) in
    ap (λ k. eqb k (length bytes)) (taken ∙ length-prefix_len p bytes) ∙ run-all p bytes
