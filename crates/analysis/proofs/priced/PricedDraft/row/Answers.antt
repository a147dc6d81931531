use Rattle.std.proofs.Common.{◌≡◌, ℕ, ◌*◌, ◌^◌, ◌≤◌, true, cond, rules, tests, ap, sym, ◌∙◌, arith}
use Rattle.sets.specs.Sets.{WaySet, has, is_memberless}
use Rattle.analysis.specs.declared.row.Row.{Row}
use Rattle.analysis.specs.Charges.{guard_cost, guarded}
use Rattle.analysis.specs.Floor.{Floor}
use Rattle.analysis.specs.PricedFloor.{priced_floor}
use Rattle.analysis.specs.Sums.{sum_below}
use Rattle.analysis.specs.SumsLemmas.{most-ext, sum-ext}
use Rattle.analysis.proofs.Chains.{most-found, sum-fits, sum-found}
use Rattle.analysis.proofs.Floors.{none-has}
use Rattle.analysis.proofs.Limits.{guard-few, sum-few}
use Rattle.analysis.proofs.Sheets.{row-is}
use Rattle.analysis.proofs.priced.PricedDraft.row.Goals as goal

-- the cost of a way in the set, which is the guard cost where the set is that of the guarded ways
abbrev paid : Floor → WaySet → ℕ → ℕ
paid f s w = cond (has s w) (f.cost w) 0

paid-is : (f : Floor) (i : ℕ) (s : WaySet) → ((w : ℕ) → has s w ≡ guarded f i w) → (w : ℕ) → paid f s w ≡ guard_cost f i w
unfolding guard_cost
paid-is f i s h w = ap (λ b. cond b (f.cost w) 0) (h w)

abbrev no_cost : ℕ → ℕ
no_cost w = 0

-- where no way is guarded, none costs anything
free : (f : Floor) (i : ℕ) (s : WaySet) → ((w : ℕ) → has s w ≡ guarded f i w) → is_memberless s ≡ true → (w : ℕ) → guard_cost f i w ≡ 0
unfolding guard_cost
free f i s h e w = ap (λ b. cond b (f.cost w) 0) (sym (h w) ∙ none-has s e w)

pub sum-requires-clause-fits : goal.sum-requires-clause-fits
sum-requires-clause-fits c =
    let f = priced_floor c.args.self.now in
    let s = c.guarded_ways-guarded.result in
    let same = sum-ext 8 (paid f s) (guard_cost f c.args.task) (λ w l. paid-is f c.args.task s c.guarded_ways-guarded.ensures w) in
    let few : sum_below 8 (guard_cost f c.args.task) ≤ 8 * 65535 = sum-few 8 65535 (guard_cost f c.args.task) (guard-few c.args.self.now c.args.task) in
    sum-fits 8 (paid f s) _ _ (2 ^ 32) c.map-costs.ensures.source c.map-costs.ensures.closure (λ x y q k. search (rules, tests)) (omega (arith, same, few))

pub returns : goal.returns
returns c =
    let f = priced_floor c.args.self.now in
    let s = c.guarded_ways-guarded.result in
    let cost = guard_cost f c.args.task in
    row-is c.args.self.now c.args.task c.figures_at-figures.result c.sum.result c.unwrap_or.result c.figures_at-figures.ensures
    (sum-found 8 (paid f s) _ _ _ c.map-costs.ensures.source c.map-costs.ensures.closure c.sum.ensures.ran (λ x y q k. search (rules, tests)) ∙ sum-ext 8 (paid f s) cost (λ w l. paid-is f c.args.task s c.guarded_ways-guarded.ensures w))
    (c.unwrap_or.ensures ∙ most-found 8 (paid f s) _ _ _ c.map-dearest.ensures.source c.map-dearest.ensures.closure c.max.ensures.ran (λ x y q k. search (rules, tests)) ∙ most-ext 8 (paid f s) cost (λ w l. paid-is f c.args.task s c.guarded_ways-guarded.ensures w))

pub returns-then-is_empty : goal.returns-then-is_empty
returns-then-is_empty c =
    let f = priced_floor c.args.self.now in
    let i = c.args.task in
    let none = free f i c.guarded_ways-guarded.result c.guarded_ways-guarded.ensures (sym c.is_empty.ensures ∙ c.if-is_empty.true) in
    row-is c.args.self.now i c.figures_at-figures.result c.blank.result.scrub c.blank.result.dearest c.figures_at-figures.ensures
    (ap (λ (r : Row). r.scrub) c.blank.ensures ∙ sym (sum-ext 8 (guard_cost f i) no_cost (λ w l. none w)))
    (ap (λ (r : Row). r.dearest) c.blank.ensures ∙ sym (most-ext 8 (guard_cost f i) no_cost (λ w l. none w)))
