-- How large the charges of a draft are at most, whatever its ways cost.
use Rattle.std.proofs.Common.{◌≡◌, ℕ, zero, suc, ◌*◌, ◌≤◌, true, List, [], ◌∷◌, arith}
use Rattle.std.proofs.lemmas.Bool.Decides.{nat_tests}
use Rattle.taskset.specs.declared.task.Task.{Task}
use Rattle.taskset.specs.Figures.{all_lawful, lawful}
use Rattle.analysis.specs.declared.priced.PricedDraft.{PricedDraft}
use Rattle.analysis.specs.Charges.{block, blocking, dearest, guard_cost, hold_cost, interference, resume_below, resume_cost, resumption, scrub_cost}
use Rattle.analysis.specs.FloorOf.{figures_at, floor_of}
use Rattle.analysis.specs.PricedFloor.{priced_floor}
use Rattle.analysis.specs.Sums.{sum_below, most_below}

-- sums and largest values of terms that are at most b
pub sum-few : (n b : ℕ) (f : ℕ → ℕ) → ((k : ℕ) → f k ≤ b) → sum_below n f ≤ n * b
sum-few zero b f h = omega arith
sum-few (suc n) b f h = omega (arith, sum-few n b f h, h n)

most-few : (n b : ℕ) (f : ℕ → ℕ) → ((k : ℕ) → f k ≤ b) → most_below n f ≤ b
most-few zero b f h = omega arith
most-few (suc n) b f h = omega (arith, most-few n b f h, h n)

pub guard-few : (p : PricedDraft) (i w : ℕ) → guard_cost (priced_floor p) i w ≤ 65535
unfolding guard_cost floor_of
guard-few p i w = let c = p.costs.narrow w in grind arith

pub scrub-few : (p : PricedDraft) (i : ℕ) → scrub_cost (priced_floor p) i ≤ 524280
unfolding scrub_cost floor_of
scrub-few p i = sum-few 8 65535 (guard_cost (priced_floor p) i) (guard-few p i)

pub dearest-few : (p : PricedDraft) (i : ℕ) → dearest (priced_floor p) i ≤ 65535
unfolding dearest
dearest-few p i = most-few (priced_floor p).ways 65535 (guard_cost (priced_floor p) i) (guard-few p i)

pub resume-few : (p : PricedDraft) (j m : ℕ) → resume_below (priced_floor p) j m ≤ 524280
unfolding resume_below
resume-few p j m = most-few m 524280 (resumption (priced_floor p) j) (λ k. let s = scrub-few p k in grind arith)

budget-at : (ts : List Task) → all_lawful ts ≡ true → (i : ℕ) → (figures_at ts i).budget ≤ 60000
unfolding figures_at lawful
budget-at [] ok i = omega arith
budget-at (t ∷ ts) ok zero = grind (arith, nat_tests)
budget-at (t ∷ ts) ok (suc i) = let rest : all_lawful ts ≡ true = grind arith in budget-at ts rest i

pub budget-few : (p : PricedDraft) (i : ℕ) → (priced_floor p).budget i ≤ 60000
unfolding floor_of
budget-few p i = budget-at p.draft.tasks p.lawful.figures i

pub interference-few : (p : PricedDraft) (j i : ℕ) → interference (priced_floor p) j i ≤ 1108560
unfolding interference resume_cost
interference-few p j i = omega (arith, budget-few p j, scrub-few p j, resume-few p j (suc i))

hold-few : (p : PricedDraft) (l : ℕ) → hold_cost (priced_floor p) l ≤ 584280
unfolding hold_cost
hold-few p l = let b = budget-few p l in let s = scrub-few p l in let d = dearest-few p l in grind arith

pub blocking-few : (p : PricedDraft) (i : ℕ) → blocking (priced_floor p) i ≤ 584280
unfolding blocking
blocking-few p i = most-few (priced_floor p).tasks 584280 (block (priced_floor p) i) (λ l. let h = hold-few p l in grind arith)
