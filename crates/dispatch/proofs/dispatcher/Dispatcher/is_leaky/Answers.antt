use Rattle.std.proofs.Common.{◌≡◌, ℕ, ◌&&◌, rules, tests, subst}
use Rattle.sets.specs.Below.{some_below}
use Rattle.sets.specs.Sets.{has}
use Rattle.sets.proofs.Found.{some-found}
use Rattle.dispatch.specs.View.{floor}
use Rattle.dispatch.proofs.dispatcher.Dispatcher.is_leaky.Goals as goal

pub returns : goal.returns
returns c =
    let leaks = λ (k : ℕ). has c.args.recorded k && (floor c.args.self.now).noleak k c.args.task in
    subst (λ (n : ℕ). c.any.result ≡ some_below n leaks) c.task_count.ensures.count
    (some-found _ leaks _ _ _ c.any.ensures.ran (λ x b q k. search (rules, tests)))
