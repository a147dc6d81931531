-- What a row says.
use Rattle.std.proofs.Common.{◌≡◌, ℕ, zero, suc, ◌≤◌, List, [], ◌∷◌, length, refl, sym, ap, arith}
use Rattle.std.proofs.lemmas.Bool.Decides.{nat_tests}
use Rattle.sets.specs.Sets.{has}
use Rattle.sets.proofs.Members.{member-zero}
use Rattle.taskset.specs.declared.task.Task.{Task}
use Rattle.taskset.specs.declared.task.Figures.{Figures}
use Rattle.taskset.specs.Figures.{is_whole}
use Rattle.analysis.specs.declared.priced.PricedDraft.{PricedDraft}
use Rattle.analysis.specs.declared.row.Row.{Row}
use Rattle.analysis.specs.Charges.{dearest, guard_cost, guarded, scrub_cost}
use Rattle.analysis.specs.Floor.{Floor}
use Rattle.analysis.specs.FloorOf.{figures_at, floor_of, no_figures}
use Rattle.analysis.specs.PricedFloor.{priced_floor}
use Rattle.analysis.specs.Rows.{row_of}
use Rattle.analysis.specs.Sums.{sum_below, most_below}
use Rattle.analysis.specs.SumsLemmas.{most-ext, sum-ext}
use Rattle.analysis.proofs.Limits.{budget-few, dearest-few, scrub-few}

-- the row of task i, and its limits, by which no sum of its numbers overflows
pub record RowOf (f : Floor) (i : ℕ) (row : Row) : Type 0 where
  pub period : row.figures.period ≡ f.period i
  pub budget : row.figures.budget ≡ f.budget i
  pub deadline : row.figures.deadline ≡ f.deadline i
  pub whole : is_whole row.figures.kind ≡ f.whole i
  pub scrub : row.scrub ≡ scrub_cost f i
  pub dearest : row.dearest ≡ dearest f i
  pub budget_few : row.figures.budget ≤ 60000
  pub scrub_few : row.scrub ≤ 524280
  pub dearest_few : row.dearest ≤ 65535

pub row-facts : (p : PricedDraft) (i : ℕ) (r : Row) → r ≡ row_of p i → RowOf (priced_floor p) i r
unfolding floor_of
row-facts p i r e =
    let b : r.figures.budget ≡ (priced_floor p).budget i = ap (λ (x : Row). x.figures.budget) e in
    let s : r.scrub ≡ scrub_cost (priced_floor p) i = ap (λ (x : Row). x.scrub) e in
    let d : r.dearest ≡ dearest (priced_floor p) i = ap (λ (x : Row). x.dearest) e in
    record {
      period = ap (λ (x : Row). x.figures.period) e;
      budget = b;
      deadline = ap (λ (x : Row). x.figures.deadline) e;
      whole = ap (λ (x : Row). is_whole x.figures.kind) e;
      scrub = s;
      dearest = d;
      budget_few = omega (arith, b, budget-few p i);
      scrub_few = omega (arith, s, scrub-few p i);
      dearest_few = omega (arith, d, dearest-few p i);
    }

-- the row, by its parts: the sum and the largest of the guard costs of eight ways
pub row-is : (p : PricedDraft) (i : ℕ) (x : Figures) (s d : ℕ) → x ≡ figures_at p.draft.tasks i → s ≡ sum_below 8 (guard_cost (priced_floor p) i) → d ≡ most_below 8 (guard_cost (priced_floor p) i) → record { figures = x; scrub = s; dearest = d } ≡ row_of p i
unfolding scrub_cost dearest floor_of
row-is p i x s d f a b = cc

-- past the last task there are no figures, and no way is guarded: so the rows are all alike
figures-past : (ts : List Task) (i : ℕ) → length ts ≤ i → figures_at ts i ≡ no_figures
unfolding figures_at
figures-past [] i l = refl
figures-past (t ∷ ts) zero l = absurd (omega arith)
figures-past (t ∷ ts) (suc i) l = figures-past ts i (omega arith)

no_cost : ℕ → ℕ
no_cost w = 0

free-past : (p : PricedDraft) (i : ℕ) → length p.draft.tasks ≤ i → (w : ℕ) → guard_cost (priced_floor p) i w ≡ no_cost w
unfolding guard_cost guarded floor_of has no_cost
free-past p i l w = let e = ap (λ (x : Figures). has x.ways w) (figures-past p.draft.tasks i l) in let z = member-zero w in grind (arith, nat_tests)

pub row-past : (p : PricedDraft) (i : ℕ) → length p.draft.tasks ≤ i → row_of p i ≡ record { figures = no_figures; scrub = 0; dearest = 0 }
unfolding no_cost
row-past p i l = sym (row-is p i no_figures 0 0 (sym (figures-past p.draft.tasks i l)) (sym (sum-ext 8 (guard_cost (priced_floor p) i) no_cost (λ w m. free-past p i l w))) (sym (most-ext 8 (guard_cost (priced_floor p) i) no_cost (λ w m. free-past p i l w))))
