use Rattle.std.proofs.Common.{◌≡◌, true, false, ltb, rules, tests}
use Rattle.std.proofs.lemmas.Iterator.{IsFirst-from_position, YieldsList-from_slice}
use Rattle.dispatch.specs.declared.dispatcher.Job.{Job}
use Rattle.dispatch.proofs.Firsts.{first-in}
use Rattle.dispatch.proofs.dispatcher.choice.first_left.Goals as goal

pub returns : goal.returns
returns c =
    let test = λ (j : Job). ltb 0 j.left in
    first-in c.args.jobs.now (record { age = 0; left = 0 }) test c.position.result
    (IsFirst-from_position _ _ c.position.result (λ j. test j ≡ true) (λ j. test j ≡ false) c.position.ensures.ran (YieldsList-from_slice c.args.jobs.now cc)
    (λ x q k. search (rules, tests)) (λ x q k. search (rules, tests)))
