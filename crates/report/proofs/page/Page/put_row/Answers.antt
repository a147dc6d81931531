use Rattle.report.specs.Page.{line}
use Rattle.report.proofs.Puts.{then}
use Rattle.report.proofs.page.Page.put_row.Goals as goal

pub returns : goal.returns
unfolding line
returns g c =
    let word = then c.put.ensures c.put-2.ensures in
    let first = then (then word c.put_number.ensures) c.put-3.ensures in
    then (then first c.put_number-2.ensures) c.put-4.ensures
