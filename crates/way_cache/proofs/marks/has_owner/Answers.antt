use Rattle.std.proofs.Common.{rules, tests, ◌≡◌, ℕ, zero, suc, ◌+◌, ◌-◌, ◌≤◌, Bool, ltb, List, length, get_or, take, drop, refl, ap, ◌∙◌, arith, add-one}
use Rattle.std.specs.List.{list_any}
use Rattle.std.proofs.Math.Bool.{or_comm}
use Rattle.std.proofs.lemmas.List.{get_or-drop, length-drop}
use Rattle.std.proofs.lemmas.List.Folds.{list_any_more}
use Rattle.std.proofs.lemmas.Iterator.{YieldsList-from_slice}
use Rattle.std.proofs.lemmas.Iterator.Search.{any_from_yields_List}
use Rattle.sets.specs.Below.{some_below}
use Rattle.way_cache.proofs.marks.has_owner.Goals as goal

-- one of the n elements from a place on passes the test
any-from : (p : ℕ → Bool) (xs : List ℕ) (from n : ℕ) → from + n ≤ length xs → list_any p (take n (drop from xs)) ≡ some_below n (λ i. p (get_or xs (from + i) 0))
unfolding some_below
any-from p xs from zero h = refl
any-from p xs from (suc n) h =
    let below = any-from p xs from n (omega arith) in
    let here = list_any_more p (drop from xs) n 0 (omega (arith, length-drop from xs)) in
    let mark = ap p (get_or-drop from xs n 0) in
    rw (← add-one) (here ∙ or_comm (list_any p (take n (drop from xs))) (p (get_or (drop from xs) n 0)) ∙ cc)

pub returns : goal.returns
returns c =
    let from = c.args.from in
    let block = take (from + 16 - from) (drop from c.args.marks.now) in
    let n : from + 16 - from ≡ 16 = omega arith in
    let found = any_from_yields_List (λ m. ltb m 16) _ _ c.any.result c.any.ensures.ran (YieldsList-from_slice block cc) (λ x b q k. search (rules, tests)) in
    found ∙ ap (λ (k : ℕ). list_any (λ m. ltb m 16) (take k (drop from c.args.marks.now))) n ∙ any-from (λ m. ltb m 16) c.args.marks.now from 16 c.requires
