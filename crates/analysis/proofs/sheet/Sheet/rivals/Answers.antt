use Rattle.std.proofs.Common.{◌∙◌, length-set, ℕ, arith}
use Rattle.analysis.specs.declared.rivals.Rival.{Rival}
use Rattle.analysis.specs.Rivals.{RivalOf}
use Rattle.analysis.specs.Sheets.{sheet_floor}
use Rattle.analysis.proofs.Floors.{listed-range, sixteen}
use Rattle.analysis.proofs.Limits.{interference-few}
use Rattle.analysis.proofs.Places.{written-more}
use Rattle.analysis.proofs.Sheets.{row-facts}
use Rattle.analysis.proofs.sheet.Sheet.rivals.Goals as goal

pub bounds-all-j : goal.bounds-all-j
bounds-all-j c = omega (arith, sixteen c.args.self.now.floor)

pub loop-j-preserved : goal.loop-j-preserved
loop-j-preserved c =
    let r = row-facts c.args.self.now.floor c.loop-j.j c.row.result c.row.ensures in
    record {
      long = length-set _ _ _ ∙ c.loop-j.invariant.long;
      each = written-more (λ (k : ℕ) (x : Rival). RivalOf (sheet_floor c.args.self.now) c.args.i k x) c.loop-j.all c.loop-j.j (record { period = c.row.result.figures.period; take = c.interference.result }) (record { period = 0; take = 0 }) (omega (arith, sixteen c.args.self.now.floor)) c.loop-j.invariant.each (record { period = r.period; take = c.interference.ensures });
    }

pub invariant_of-result : goal.invariant_of-result
invariant_of-result c = record {
  few = omega (arith, sixteen c.args.self.now.floor);
  periods = λ j l. let r = c.loop-j.invariant.each j (omega arith) in let k = listed-range c.args.self.now.floor j (omega arith) in omega (arith, r.period, k.some);
  takes = λ j l. let r = c.loop-j.invariant.each j (omega arith) in omega (arith, r.take, interference-few c.args.self.now.floor j c.args.i);
}
