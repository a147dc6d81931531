use Rattle.std.proofs.Common.{arith}
use Rattle.report.proofs.Lines.{twenty-digits}
use Rattle.report.proofs.report.put_refusal.Goals as goal

pub put_row-requires : goal.put_row-requires
put_row-requires g c =
    let number = twenty-digits c.number.result (omega (arith, c.number.type_inv)) in
    let detail = twenty-digits c.detail.result c.detail.type_inv in
    omega (arith, c.requires)
