use Rattle.std.proofs.Common.{◌≡◌, Ok, codes, rules, arith, ap}
use Rattle.textparts.proofs.Spelt.{spelt}
use Rattle.tabletext.specs.Forms.{noleak, next}
use Rattle.tabletext.proofs.form.worded.Goals as goal

pub returns-in_ok-pair_pieces-in-noleak : goal.returns-in_ok-pair_pieces-in-noleak
returns-in_ok-pair_pieces-in-noleak c =
    let word : c.args.word.bytes.now ≡ codes "noleak" = spelt c.args.word.bytes.now 0 (codes "noleak") (search rules) (omega arith) in
    rw word (ap (λ r. next r (λ w. Ok (noleak w))) c.in_ok-pair_pieces-in-noleak.ensures)
