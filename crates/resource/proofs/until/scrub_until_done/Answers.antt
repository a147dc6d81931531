use Rattle.std.proofs.Common.{◌≡◌, ℕ, suc, ◌+◌, true, false, subst, arith}
use Rattle.resource.specs.Answers.{is_done}
use Rattle.resource.specs.Until.{UntilDone}
use Rattle.resource.proofs.Laws.{until-last, until-more, until-emptied}
use Rattle.resource.proofs.until.scrub_until_done.Goals as goal

pub loop-calls-preserved : goal.loop-calls-preserved
loop-calls-preserved g c =
    let m = g.R.Resource.meaning in
    let i = c.loop-calls.invariant in
    let under_way : is_done c.scrub.result ≡ false = cc in (
      suc i.0,
      omega (arith, i.1),
      λ k t h. subst (λ (j : ℕ). UntilDone m c.args.way c.args.r.now j t) (omega arith) (i.2 (suc k) t (until-more c.scrub.ensures under_way h)),
    )

pub returns : goal.returns
returns g c =
    let i = c.loop-calls.invariant in
    let done : is_done c.scrub.result ≡ true = cc in
    let made = i.2 1 c.scrub.new.self (until-last c.scrub.ensures done) in
    record { calls = i.0 + 1; made = made; law = until-emptied g.R.Resource.meaning c.args.way made; count = omega (arith, i.1) }
