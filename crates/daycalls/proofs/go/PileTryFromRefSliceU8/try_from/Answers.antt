use Rattle.std.proofs.Common.{◌≡◌, codes, rules, arith, refl}
use Rattle.textparts.proofs.Spelt.{spelt}
use Rattle.daycalls.proofs.go.PileTryFromRefSliceU8.try_from.Goals as goal

pub returns-in-reserved : goal.returns-in-reserved
returns-in-reserved c =
    let e : c.args.word.now ≡ codes "reserved" = spelt c.args.word.now 0 (codes "reserved") (search rules) (omega arith) in rw e refl
