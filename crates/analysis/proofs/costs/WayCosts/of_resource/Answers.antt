use Rattle.std.proofs.Common.{◌≡◌, ℕ, ◌%◌, suc, rules, tests, sym, ap, ◌∙◌, ⊎_elim, arith}
use Rattle.std.proofs.lemmas.Bool.Decides.{leb_tells}
use Rattle.std.proofs.lemmas.List.{get_or_past}
use Rattle.std.proofs.Math.Nat.{mod-eq_of_lt}
use Rattle.resource.specs.Answers.{told16}
use Rattle.analysis.proofs.FromFn.{from-each}
use Rattle.analysis.proofs.costs.WayCosts.of_resource.Goals as goal

-- past the eighth way nothing is there
pub returns : goal.returns
returns g c w =
    let cost = λ (k : ℕ). told16 ((g.R.Resource.meaning.seen c.args.resource.now).cost k) in
    ⊎_elim
    (λ p. from-each (λ (k v : ℕ). v ≡ cost (k % 8)) _ _ (λ k v q e. search (rules, tests)) 8 c.from_fn.ensures.items w 0 p.1 ∙ ap cost (mod-eq_of_lt p.1))
    (λ p. get_or_past c.from_fn.result w 0 (omega (arith, p.1, c.from_fn.ensures.items.long)) ∙ ap told16 (sym (c.requires.free w (omega (arith, p.1, c.requires.few)))))
    (leb_tells (suc w) 8)
