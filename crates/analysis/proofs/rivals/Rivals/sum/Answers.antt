use Rattle.std.proofs.Common.{◌≡◌, ◌*◌, ap, ◌∙◌, arith}
use Rattle.analysis.specs.Rivals.{jobs_in, rival_at, rival_sum}
use Rattle.analysis.specs.Sums.{sum_below}
use Rattle.analysis.proofs.rivals.Rivals.sum.Goals as goal

pub returns-clause-value : goal.returns-clause-value
unfolding rival_sum
returns-clause-value c =
    let r = c.args.self.now in
    let e : c.loop-rival.rival-index ≡ r.count = omega arith in
    c.loop-rival.invariant.value ∙ ap (λ n. sum_below n (λ j. jobs_in c.args.kind c.args.x (rival_at r j).period * (rival_at r j).take)) e
