-- The demands that the code sums are those of the floor, and what a search of them tells of a task's bound.
use Rattle.std.proofs.Common.{◌≡◌, ℕ, ◌+◌, ◌-◌, ◌*◌, ◌<◌, ◌≤◌, Bool, true, false, Some, None, Option, sym, ap, ◌∙◌, subst, ap₂, arith, MatchOption}
use Rattle.taskset.specs.declared.task.Kind.{Kind}
use Rattle.taskset.specs.declared.task.Kind.TheVariants.{Split, Whole}
use Rattle.analysis.specs.declared.rivals.Rivals.{Rivals}
use Rattle.analysis.specs.Bounds.{IsBoundOf, IsLeast, InTime, split_demand, whole_demand}
use Rattle.analysis.specs.Charges.{blocking, interference, scrub_cost}
use Rattle.analysis.specs.Floor.{Floor}
use Rattle.analysis.specs.Least.{NoneUpTo, BoundMet, BoundMissed, Unbounded}
use Rattle.analysis.specs.Rivals.{jobs_in, rival_at, rival_sum, RivalsOf}
use Rattle.analysis.specs.Sums.{sum_below}
use Rattle.analysis.specs.SumsLemmas.{sum-ext}

rivals-are : (f : Floor) (i : ℕ) (r : Rivals) → RivalsOf f i r → (kind : Kind) (x : ℕ) → rival_sum r kind x ≡ sum_below i (λ j. jobs_in kind x (f.period j) * interference f j i)
unfolding rival_sum
rivals-are f i r h kind x =
    ap (λ n. sum_below n (λ j. jobs_in kind x (rival_at r j).period * (rival_at r j).take)) h.count
    ∙ sum-ext i _ _ (λ j l. ap₂ (λ p k. jobs_in kind x p * k) (h.each j l).period (h.each j l).take)

-- what a split task, and a whole one, has to wait for: the base b, and the rivals
abbrev split_load : Rivals → ℕ → ℕ → ℕ
split_load r b x = b + rival_sum r Split x

abbrev whole_load : Rivals → ℕ → ℕ → ℕ
whole_load r b x = b + rival_sum r Whole x

split-is : (f : Floor) (i b : ℕ) (r : Rivals) → b ≡ blocking f i + f.budget i + scrub_cost f i → RivalsOf f i r → (x : ℕ) → split_load r b x ≡ split_demand f i x
unfolding split_demand
split-is f i b r e h x = ap₂ (λ a b. a + b) e (rivals-are f i r h Split x)

whole_is : (f : Floor) (i b : ℕ) (r : Rivals) → b ≡ blocking f i → RivalsOf f i r → (x : ℕ) → whole_load r b x ≡ whole_demand f i x
unfolding whole_demand
whole_is f i b r e h x = ap₂ (λ a b. a + b) e (rivals-are f i r h Whole x)

-- the least number of one demand is that of the other, where both always agree
least-ext : (d e : ℕ → ℕ) (low x : ℕ) → ((y : ℕ) → d y ≡ e y) → IsLeast d low x → IsLeast e low x
least-ext d e low x h l = record {
  from = l.from;
  meets = omega (arith, h x, l.meets);
  first = λ y lo m. l.first y lo (omega (arith, h y, m));
}

-- what an answer tells, said otherwise
pub told : {P Q : Type 0} {R S : ℕ → Type 0} (o : Option ℕ) → (P → Q) → ((x : ℕ) → R x → S x) → MatchOption o P R → MatchOption o Q S
told None n s h = n h
told (Some x) n s h = s x h

pub split-told : (f : Floor) (i limit b : ℕ) (r : Rivals) (o : Option ℕ) → b ≡ blocking f i + f.budget i + scrub_cost f i → RivalsOf f i r → limit ≡ f.deadline i → MatchOption o (NoneUpTo (split_load r b) 1 limit) (λ x. IsLeast (split_load r b) 1 x × (x ≤ limit)) → MatchOption o (BoundMissed f i false) (BoundMet f i false)
split-told f i limit b r o e h l =
    told o
    (λ none y m. let g = split-is f i b r e h y in none y m.0.from (omega (arith, l, m.1)) (omega (arith, g, m.0.meets)))
    (λ x s. (least-ext (split_load r b) (split_demand f i) 1 x (split-is f i b r e h) s.0, omega (arith, l, s.1)))

-- a whole task that starts in time ends in time
pub whole-met : (f : Floor) (i limit job s b : ℕ) (r : Rivals) → b ≡ blocking f i → RivalsOf f i r → limit ≡ f.deadline i → job ≡ scrub_cost f i + f.budget i → job ≤ limit → IsLeast (whole_load r b) 0 s × (s ≤ limit - job) → BoundMet f i true (s + job)
whole-met f i limit job s b r e h l j fits m = ((s, least-ext (whole_load r b) (whole_demand f i) 0 s (whole_is f i b r e h) m.0, omega (arith, j)), omega (arith, l, m.1))

pub whole-missed : (f : Floor) (i limit job b : ℕ) (r : Rivals) → b ≡ blocking f i → RivalsOf f i r → limit ≡ f.deadline i → job ≡ scrub_cost f i + f.budget i → NoneUpTo (whole_load r b) 0 (limit - job) → BoundMissed f i true
whole-missed f i limit job b r e h l j none y m =
    let s = m.0.0 in
    let g = whole_is f i b r e h s in
    none s (omega arith) (omega (arith, l, j, m.1, m.0.2)) (omega (arith, g, m.0.1.meets))

pub whole_long : (f : Floor) (i limit job : ℕ) → limit ≡ f.deadline i → job ≡ scrub_cost f i + f.budget i → limit < job → BoundMissed f i true
whole_long f i limit job l j long b m = omega (arith, l, j, long, m.1, m.0.2)

-- the bound of a task by its kind
pub kind-told : (f : Floor) (i : ℕ) (w : Bool) (o : Option ℕ) → w ≡ f.whole i → MatchOption o (BoundMissed f i w) (BoundMet f i w) → MatchOption o (Unbounded f i) (InTime f i)
kind-told f i w o e = told o (λ none b t. none b (subst (λ (v : Bool). IsBoundOf f i v b) (sym e) t.bound, t.met)) (λ b m. record { bound = subst (λ (v : Bool). IsBoundOf f i v b) e m.0; met = m.1 })
