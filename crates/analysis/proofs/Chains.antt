-- Chains over the numbers below a limit, as sums and largest values.
use Rattle.std.proofs.Common.{◌≡◌, ℕ, zero, suc, ◌+◌, ◌<◌, max, List, [], ◌∷◌, ◌++◌, Option, refl, sym, ap, ◌∙◌, add-one, arith}
use Rattle.std.specs.Prelude.{⊤, map, fold, sum, unwrap_or}
use Rattle.std.specs.Fn.{Called}
use Rattle.std.specs.Iterator.{Drains, PicksByCmp}
use Rattle.std.specs.Iterator.Runs.{EachRunFrom}
use Rattle.std.specs.Iterator.Adapters.{map_callee, map_source}
use Rattle.std.specs.List.{range_with_len, reduce}
use Rattle.std.specs.Ordering.{max_by_ordering, nat_cmp}
use Rattle.std.specs.declared.iter.Map.{Map}
use Rattle.std.specs.declared.ops.Range.{Range}
use Rattle.std.proofs.iter.Yields.{nat_range_steps}
use Rattle.std.proofs.lemmas.Iterator.{maps, YieldsList, YieldsList-from_map, YieldsList-from_range}
use Rattle.std.proofs.lemmas.Iterator.Adapters.{option_map_id}
use Rattle.std.proofs.lemmas.Iterator.Consumers.{fits_from_yields_list, max_from_yields_List, sum_from_yields_List, YieldsList-at}
use Rattle.std.proofs.lemmas.List.FromFn.{map-range_with_len_more}
use Rattle.std.proofs.lemmas.List.Sums.{fold-append, sum_by_push}
use denote.Param.Members.{Mut}
use Rattle.analysis.specs.Sums.{most_below, sum_below}

largest-fold : (xs : List ℕ) → unwrap_or (reduce max xs) 0 ≡ fold max 0 xs
largest-fold [] = refl
largest-fold (x ∷ xs) = let e : x ≡ max 0 x = omega arith in ap (λ (a : ℕ). fold max a xs) e

most-fold : (n : ℕ) (f : ℕ → ℕ) → fold max 0 (map f (range_with_len 0 n)) ≡ most_below n f
most-fold zero f = refl
most-fold (suc n) f =
    let e : map f (range_with_len 0 (suc n)) ≡ map f (range_with_len 0 n) ++ f n ∷ [] = ap (λ (k : ℕ). map f (range_with_len 0 k)) (sym (add-one n)) ∙ map-range_with_len_more f 0 n n (omega arith) in
    ap (fold max 0) e ∙ fold-append max 0 (map f (range_with_len 0 n)) (f n ∷ []) ∙ ap (λ (a : ℕ). max a (f n)) (most-fold n f)

pub most-map : (n : ℕ) (f : ℕ → ℕ) → unwrap_or (reduce max (map f (range_with_len 0 n))) 0 ≡ most_below n f
most-map n f = largest-fold (map f (range_with_len 0 n)) ∙ most-fold n f

-- `(0..n).map(..).max().unwrap_or(0)`
pub most-found : {F : Type 0} {g : Mut F (ℕ × Unit {0}) ℕ} (n : ℕ) (h : ℕ → ℕ) (s : Map (Range ℕ) F) (f : F) (r : Option ℕ)
    → map_source s ≡ record { start = 0; end = n } → map_callee s ≡ f → PicksByCmp (maps nat_range_steps g) max_by_ordering nat_cmp s r
    → ((x y : ℕ) (q : F) → Called g f (x, tt) y q → (q ≡ f) × (y ≡ h x))
    → unwrap_or r 0 ≡ most_below n h
most-found {g = g} n h s f r source callee picks told =
    let chain : YieldsList (maps nat_range_steps g) (λ x. x) s (map h (range_with_len 0 n)) = YieldsList-from_map g h (YieldsList-at source (YieldsList-from_range 0 n n refl (omega arith))) callee told in
    ap (λ (o : Option ℕ). unwrap_or o 0) (sym (option_map_id r) ∙ max_from_yields_List s r picks chain) ∙ most-map n h

sum-map : (n : ℕ) (f : ℕ → ℕ) → sum (map f (range_with_len 0 n)) ≡ sum_below n f
sum-map zero f = refl
sum-map (suc n) f =
    ap (λ (k : ℕ). sum (map f (range_with_len 0 k))) (sym (add-one n))
    ∙ ap sum (map-range_with_len_more f 0 n n (omega arith))
    ∙ sum_by_push (λ x. x) (map f (range_with_len 0 n)) (f n)
    ∙ ap (λ (a : ℕ). a + f n) (sum-map n f)

-- `(0..n).map(..).sum()`, and that it fits its type
pub sum-found : {F : Type 0} {g : Mut F (ℕ × Unit {0}) ℕ} (n : ℕ) (h : ℕ → ℕ) (s : Map (Range ℕ) F) (f : F) (r : ℕ)
    → map_source s ≡ record { start = 0; end = n } → map_callee s ≡ f
    → ((xs : List ℕ) × (⊤ → Drains (maps nat_range_steps g) s xs) × (r ≡ fold (λ a x. a + x) 0 xs))
    → ((x y : ℕ) (q : F) → Called g f (x, tt) y q → (q ≡ f) × (y ≡ h x))
    → r ≡ sum_below n h
sum-found {g = g} n h s f r source callee ran told =
    sum_from_yields_List s r ran (YieldsList-from_map g h (YieldsList-at source (YieldsList-from_range 0 n n refl (omega arith))) callee told) ∙ sum-map n h

pub sum-fits : {F : Type 0} {g : Mut F (ℕ × Unit {0}) ℕ} (n : ℕ) (h : ℕ → ℕ) (s : Map (Range ℕ) F) (f : F) (top : ℕ)
    → map_source s ≡ record { start = 0; end = n } → map_callee s ≡ f
    → ((x y : ℕ) (q : F) → Called g f (x, tt) y q → (q ≡ f) × (y ≡ h x))
    → sum_below n h < top
    → EachRunFrom (maps nat_range_steps g) s (λ p. fold (λ a x. a + x) 0 p.items < top)
sum-fits {g = g} n h s f top source callee told l =
    fits_from_yields_list s top (YieldsList-from_map g h (YieldsList-at source (YieldsList-from_range 0 n n refl (omega arith))) callee told) (omega (arith, sum-map n h))
