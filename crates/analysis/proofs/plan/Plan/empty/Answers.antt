use Rattle.std.proofs.Common.{◌∙◌, arith}
use Rattle.analysis.specs.Costs.{cost_of}
use Rattle.analysis.proofs.Floors.{tasks-none}
use Rattle.analysis.proofs.plan.Plan.empty.Goals as goal

pub invariant_of-result : goal.invariant_of-result
invariant_of-result c =
    let none = tasks-none c.new.result.draft (cost_of c.new.result.costs) (c.new.ensures.draft ∙ c.empty.ensures) in
    record { priced = λ i w l u. absurd (omega (arith, none)); accepted = ∣ (λ i l. absurd (omega (arith, none))) ∣₁ }
