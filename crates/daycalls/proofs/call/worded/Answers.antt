use Rattle.std.proofs.Common.{◌≡◌, codes, rules, arith, ap}
use Rattle.daycalls.specs.Calls.{announce, finish, or_odd}
use Rattle.textparts.proofs.Spelt.{spelt}
use Rattle.daycalls.proofs.call.worded.Goals as goal

pub returns-in_ok-last_name-in-finish : goal.returns-in_ok-last_name-in-finish
returns-in_ok-last_name-in-finish c =
    let word : c.args.word.bytes.now ≡ codes "finish" = spelt c.args.word.bytes.now 0 (codes "finish") (search rules) (omega arith) in
    rw word (ap (or_odd finish) c.in_ok-last_name-in-finish.ensures)

pub returns-in_ok-last_name-in-announce : goal.returns-in_ok-last_name-in-announce
returns-in_ok-last_name-in-announce c =
    let word : c.args.word.bytes.now ≡ codes "announce" = spelt c.args.word.bytes.now 0 (codes "announce") (search rules) (omega arith) in
    rw word (ap (or_odd announce) c.in_ok-last_name-in-announce.ensures)
