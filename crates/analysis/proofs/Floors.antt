-- What holds of the floor that a table makes.
use Rattle.std.proofs.Common.{◌≡◌, ℕ, zero, suc, ◌+◌, ◌-◌, ◌<◌, ◌≤◌, Bool, true, false, nat_lt, List, [], ◌∷◌, length, is_ok, Ok, Err, Result, sym, refl, ap, subst, ⊎_elim, arith}
use mathlib.Core.Logic.{∥∥₁_elim}
use native.Mathlib.Bridge.{le_prop}
use native.Mathlib.Nat.{ℕ_set}
use Rattle.std.proofs.lemmas.Bool.Decides.{nat_tests}
use Rattle.sets.specs.Sets.{has, is_memberless}
use Rattle.sets.specs.declared.number_set.NumberSet.{NumberSet}
use Rattle.sets.proofs.Below.{bool_tells, none-at}
use Rattle.sets.specs.Below.{some_below}
use Rattle.std.specs.Result.{result_unwrap_or}
use Rattle.taskset.specs.declared.fault.DraftFault.{DraftFault}
use Rattle.taskset.specs.declared.fault.DraftFault.TheVariants.{Unlisted}
use Rattle.taskset.specs.declared.task.Figures.{Figures}
use Rattle.taskset.specs.declared.task.Task.{Task}
use Rattle.taskset.specs.Figures.{is_whole, all_lawful, lawful}
use Rattle.taskset.specs.Table.{Table, IsLawful, both_listed, count, nothing, pair_asked, task_at, figures_of, noleak}
use Rattle.analysis.specs.declared.priced.PricedDraft.{PricedDraft}
use Rattle.analysis.specs.Costs.{cost_of}
use Rattle.analysis.specs.PricedFloor.{priced_floor}
use Rattle.analysis.specs.Floor.{Floor}
use Rattle.analysis.specs.Charges.{scrub_cost}
use Rattle.analysis.specs.Bounds.{IsLeast, IsStart, IsBound, IsBoundOf, Accepted, split_demand, whole_demand}
use Rattle.analysis.specs.FloorOf.{floor_of, figures_at, no_figures, FiguresOf}
use Rattle.analysis.specs.Priced.{Priced}

-- where nobody is in a set, no number is
pub none-has : {n : ℕ} (s : NumberSet n) → is_memberless s ≡ true → (k : ℕ) → has s k ≡ false
unfolding is_memberless has
none-has {n} s e k =
    let none : some_below n (has s) ≡ false = grind arith in
    ⊎_elim
    (λ p. none-at n (has s) none k (grind (arith, nat_tests, p)))
    (λ p. grind (arith, p))
    (bool_tells (nat_lt k n))

-- a table without a task
pub tasks-none : (t : Table) (cost : ℕ → ℕ) → t ≡ nothing → (floor_of t cost).tasks ≡ 0
unfolding floor_of
tasks-none t cost e = ap count e

-- the figures of a task are those of the floor
pub figures-at : (ts : List Task) (i : ℕ) (x : Figures) → figures_of (task_at ts i) ≡ Ok x → (i < length ts) × (figures_at ts i ≡ x)
unfolding figures_at
figures-at [] i x e = let z : ◌≡◌ {A = ℕ} 0 1 = cc in absurd (omega arith)
figures-at (t ∷ ts) zero x e = (omega arith, cc)
figures-at (t ∷ ts) (suc i) x e = let h = figures-at ts i x e in (omega (arith, h.0), h.1)

pub figures-there : (ts : List Task) (i : ℕ) → i < length ts → is_ok (figures_of (task_at ts i)) ≡ true
figures-there [] i l = absurd (omega arith)
figures-there (t ∷ ts) zero l = refl
figures-there (t ∷ ts) (suc i) l = figures-there ts i (omega arith)

pub figures-of : (t : Table) (cost : ℕ → ℕ) (i : ℕ) (x : Figures) → figures_of (task_at t.tasks i) ≡ Ok x → FiguresOf (floor_of t cost) i x
unfolding floor_of
figures-of t cost i x e =
    let h = figures-at t.tasks i x e in
    record {
      listed = h.0;
      period = ap (λ (y : Figures). y.period) (sym h.1);
      budget = ap (λ (y : Figures). y.budget) (sym h.1);
      deadline = ap (λ (y : Figures). y.deadline) (sym h.1);
      whole = ap (λ (y : Figures). is_whole y.kind) (sym h.1);
      uses = λ w. ap (λ (y : Figures). has y.ways w) (sym h.1);
    }

-- the figures of a listed task are in their ranges
lawful-at : (ts : List Task) → all_lawful ts ≡ true → (i : ℕ) → i < length ts → lawful (figures_at ts i) ≡ true
unfolding figures_at
lawful-at [] ok i l = absurd (omega arith)
lawful-at (t ∷ ts) ok zero l = grind arith
lawful-at (t ∷ ts) ok (suc i) l = let rest : all_lawful ts ≡ true = grind arith in lawful-at ts rest i (omega arith)

pub record InRange (f : Floor) (i : ℕ) : Type 0 where
  pub some : 1 ≤ f.period i
  pub longest : f.period i ≤ 1000000
  pub work : 1 ≤ f.budget i
  pub most : f.budget i ≤ 60000
  pub due : 1 ≤ f.deadline i
  pub within : f.deadline i ≤ f.period i

pub in-range : (t : Table) → IsLawful t → (cost : ℕ → ℕ) (i : ℕ) → i < count t → InRange (floor_of t cost) i
unfolding floor_of lawful
in-range t ok cost i l =
    let h = lawful-at t.tasks ok.figures i l in
    let f = figures_at t.tasks i in
    record {
      some = grind (arith, nat_tests);
      longest = grind (arith, nat_tests);
      work = grind (arith, nat_tests);
      most = grind (arith, nat_tests);
      due = grind (arith, nat_tests);
      within = grind (arith, nat_tests);
    }

-- the same of a priced draft
pub listed-range : (p : PricedDraft) (i : ℕ) → i < (priced_floor p).tasks → InRange (priced_floor p) i
unfolding floor_of
listed-range p i l = in-range p.draft p.lawful (cost_of p.costs) i l

pub sixteen : (p : PricedDraft) → (priced_floor p).tasks ≤ 16
unfolding floor_of
sixteen p = p.lawful.few

-- a bound of a whole task, and of a split one
pub bound-whole : (f : Floor) (i b : ℕ) → f.whole i ≡ true → IsBound f i b → IsBoundOf f i true b
bound-whole f i b e h = subst (λ (v : Bool). IsBoundOf f i v b) e h

pub bound-split : (f : Floor) (i b : ℕ) → f.whole i ≡ false → IsBound f i b → IsLeast (split_demand f i) 1 b
bound-split f i b e h = subst (λ (v : Bool). IsBoundOf f i v b) e h

pub whole-bound : (f : Floor) (i b : ℕ) → f.whole i ≡ true → IsBoundOf f i true b → IsBound f i b
whole-bound f i b e h = subst (λ (v : Bool). IsBoundOf f i v b) (sym e) h

pub split-bound : (f : Floor) (i b : ℕ) → f.whole i ≡ false → IsLeast (split_demand f i) 1 b → IsBound f i b
split-bound f i b e h = subst (λ (v : Bool). IsBoundOf f i v b) (sym e) h

-- the least start of a whole task, out of its bound
start_of : (f : Floor) (i b : ℕ) → IsBoundOf f i true b → IsStart f i (b - (scrub_cost f i + f.budget i))
start_of f i b h = let e : h.0 ≡ b - (scrub_cost f i + f.budget i) = omega (arith, h.2) in subst (λ (s : ℕ). IsStart f i s) e h.1

-- that a number is the least has one proof at most
least_kept : (A : Type 0) (demand : ℕ → ℕ) (low x : ℕ) → ∥ A ∥₁ → (A → IsLeast demand low x) → IsLeast demand low x
least_kept A demand low x a h = record {
  from = ∥∥₁_elim a le_prop (λ y. (h y).from);
  meets = ∥∥₁_elim a le_prop (λ y. (h y).meets);
  first = λ y l m. ∥∥₁_elim a le_prop (λ z. (h z).first y l m);
}

-- so has every fact of an accepted floor
pub accepted-kept : (f : Floor) (bound : ℕ → ℕ) → ∥ Accepted f bound ∥₁ → Accepted f bound
accepted-kept f bound a i l = record {
  bound =
      ⊎_elim
      (λ e.
      whole-bound f i (bound i) e (
        bound i - (scrub_cost f i + f.budget i),
        least_kept (Accepted f bound) _ _ _ a (λ h. start_of f i (bound i) (bound-whole f i (bound i) e (h i l).bound)),
        ∥∥₁_elim a (ℕ_set _ _) (λ h. let b = bound-whole f i (bound i) e (h i l).bound in omega (arith, b.2)),
      ))
      (λ e. split-bound f i (bound i) e (least_kept (Accepted f bound) _ _ _ a (λ h. bound-split f i (bound i) e (h i l).bound)))
      (bool_tells (f.whole i));
  met = ∥∥₁_elim a le_prop (λ h. (h i l).met);
}

-- and that its ways are priced
pub priced-kept : (f : Floor) → ∥ Priced f ∥₁ → Priced f
priced-kept f a i w l u = (∥∥₁_elim a le_prop (λ h. (h i w l u).0), ∥∥₁_elim a le_prop (λ h. (h i w l u).1))

-- an answer, or figures that are all 0, are those of the number
pub figures-or-none : (ts : List Task) (i : ℕ) → result_unwrap_or (figures_of (task_at ts i)) no_figures ≡ figures_at ts i
unfolding figures_at
figures-or-none [] i = refl
figures-or-none (t ∷ ts) zero = refl
figures-or-none (t ∷ ts) (suc i) = figures-or-none ts i

-- nor is there a pair
pub pair-or-none : (t : Table) → IsLawful t → (from to : ℕ) (r : Result Bool DraftFault) → r ≡ pair_asked t from to → result_unwrap_or r false ≡ noleak t from to
pair-or-none t ok from to r h =
    ⊎_elim
    (λ p. let e : r ≡ Ok (noleak t from to) = grind (arith, h, p) in rw e)
    (λ p.
    let e : r ≡ Err Unlisted = grind (arith, h, p) in
    let none : noleak t from to ≡ false = ⊎_elim (λ s. let l = ok.listed from to s in let b : both_listed t from to ≡ true = grind (arith, nat_tests, l.0, l.1) in cc) (λ s. s) (bool_tells (noleak t from to)) in
    rw e (sym none))
    (bool_tells (both_listed t from to))

-- a demand has one least number, and a task one bound
least-unique : (d : ℕ → ℕ) (low x y : ℕ) → IsLeast d low x → IsLeast d low y → x ≡ y
least-unique d low x y a b = omega (arith, a.first y b.from b.meets, b.first x a.from a.meets)

pub bound-unique : (f : Floor) (i a b : ℕ) → IsBound f i a → IsBound f i b → a ≡ b
bound-unique f i a b p q =
    ⊎_elim
    (λ e. let s = bound-whole f i a e p in let t = bound-whole f i b e q in let u = least-unique (whole_demand f i) 0 s.0 t.0 s.1 t.1 in omega (arith, u, s.2, t.2))
    (λ e. least-unique (split_demand f i) 1 a b (bound-split f i a e p) (bound-split f i b e q))
    (bool_tells (f.whole i))
