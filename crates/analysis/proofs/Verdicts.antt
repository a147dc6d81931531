-- How the tests before the bounds are shown.
use Rattle.std.proofs.Common.{◌≡◌, ℕ, ◌<◌, ◌≤◌, true, false, ◌&&◌, leb, Some, None, Option, Err, Result, sym, ap, ◌∙◌, subst, ap₂, arith, MatchOption, MatchResult}
use mathlib.Core.Path.{fun_ext}
use Rattle.std.proofs.lemmas.Bool.Decides.{nat_tests}
use Rattle.std.specs.Option.{ok_or}
use Rattle.sets.specs.Sets.{has}
use Rattle.sets.proofs.Below.{none-at, some-true}
use Rattle.resource.specs.Answers.{told16}
use Rattle.resource.specs.Seen.{Seen, Sound}
use Rattle.taskset.specs.Table.{Table}
use Rattle.analysis.specs.declared.costs.WayCosts.{WayCosts}
use Rattle.analysis.specs.declared.fault.AnalysisFault.{AnalysisFault}
use Rattle.analysis.specs.declared.fault.AnalysisFault.TheVariants.{NoTask, NoWay, DearWay, ShortList, NoBound}
use Rattle.analysis.specs.declared.plan.Plan.{Plan}
use Rattle.analysis.specs.declared.priced.PricedDraft.{PricedDraft}
use Rattle.analysis.specs.After.{PlanFor}
use Rattle.analysis.specs.Costs.{cost_of}
use Rattle.analysis.specs.Bounds.{InTime}
use Rattle.analysis.specs.Floor.{Floor}
use Rattle.analysis.specs.FloorOf.{floor_of}
use Rattle.analysis.specs.Least.{Unbounded}
use Rattle.analysis.specs.PlanOf.{plan_floor}
use Rattle.analysis.specs.Priced.{Priced}
use Rattle.analysis.specs.PricedFloor.{priced_floor}
use Rattle.analysis.specs.Verdict.{asked_floor, Bounded, strays, dear, Ready, Refused, Unsettled}

-- a draft on the ways of a resource has the floor that is asked about
pub priced-asked : (p : PricedDraft) (t : Table) (costs : WayCosts) (x : Seen) → p.draft ≡ t → p.costs ≡ costs → ((w : ℕ) → cost_of costs w ≡ told16 (x.cost w)) → priced_floor p ≡ asked_floor t x
priced-asked p t costs x d k h = ap₂ (λ (u : Table) (c : ℕ → ℕ). floor_of u c) d (ap cost_of k ∙ fun_ext h)

pub refused_as : (f g : Floor) (ways n room : ℕ) (e : AnalysisFault) → f ≡ g → ways ≡ n → Refused f ways room e → Refused g n room e
refused_as f g ways n room e p q r = subst (λ (h : Floor). Refused h n room e) p (subst (λ (m : ℕ). Refused f m room e) q r)

pub ready-as : (f g : Floor) (ways n room : ℕ) → f ≡ g → ways ≡ n → Ready f ways room → Ready g n room
ready-as f g ways n room p q r = subst (λ (h : Floor). Ready h n room) p (subst (λ (m : ℕ). Ready f m room) q r)

-- the refusal of a task that has no bound, where all of higher priority have one
pub bound-refused : (f : Floor) (i : ℕ) (o : Option ℕ) (e : AnalysisFault) → MatchOption o (Unbounded f i) (InTime f i) → ok_or o (NoBound i) ≡ Err e → i < f.tasks → ((k : ℕ) → k < i → Bounded f k) → Unsettled f e
bound-refused f i (Some b) e h p l low = absurd (cc)
bound-refused f i None e h p l low = let q : NoBound i ≡ e = cc in subst (Unsettled f) q (record { below = l; fails = h; lowest = low })

-- a floor whose bounds were looked for
pub unsettled-refused : (f : Floor) (ways room : ℕ) (e : AnalysisFault) → Ready f ways room → Unsettled f e → Refused f ways room e
unsettled-refused f ways room NoTask r u = absurd u
unsettled-refused f ways room (NoWay i) r u = absurd u
unsettled-refused f ways room (DearWay w) r u = absurd u
unsettled-refused f ways room ShortList r u = absurd u
unsettled-refused f ways room (NoBound i) r u = (r, u)

-- the ways that its tasks use are there and not dear
uses-below : (t : Table) (cost : ℕ → ℕ) (i w : ℕ) → (floor_of t cost).uses i w ≡ true → w < (floor_of t cost).ways
unfolding floor_of has
uses-below t cost i w u = grind (arith, nat_tests)

stray-way : (f : Floor) (ways i w : ℕ) → strays f ways i ≡ false → w < f.ways → f.uses i w ≡ true → w < ways
unfolding strays
stray-way f ways i w h l u = let e = none-at f.ways (λ v. leb ways v && f.uses i v) h w l in grind (arith, nat_tests)

cheap-way : (f : Floor) (w i : ℕ) → dear f w ≡ false → i < f.tasks → f.uses i w ≡ true → f.cost w ≤ 1000
unfolding dear
cheap-way f w i h l u = let s = some-true f.tasks (λ k. f.uses k w) i l u in grind (arith, nat_tests)

pub priced-from : (t : Table) (x : Seen) (cost : ℕ → ℕ) (room : ℕ) → Sound x → ((w : ℕ) → cost w ≡ told16 (x.cost w)) → Ready (floor_of t cost) x.ways room → Priced (floor_of t cost)
unfolding floor_of
priced-from t x cost room ok h r i w l u =
    let b = uses-below t cost i w u in
    let a = stray-way (floor_of t cost) x.ways i w (r.there i l) b u in
    let one = ok.priced w a in
    (omega (arith, h w), cheap-way (floor_of t cost) w i (r.cheap w b) l u)

-- the plan's floor is the one asked about
pub plan-asked : (t : Table) (x : Seen) (p : Plan) → PlanFor t x p → plan_floor p ≡ asked_floor t x
plan-asked t x p h = ap₂ (λ (u : Table) (c : ℕ → ℕ). floor_of u c) h.tasks (fun_ext h.costs)

-- an answer that is known to be a refusal
pub at_err : {T : Type 0} (P : T → Type 0) (Q : AnalysisFault → Type 0) (o : Result T AnalysisFault) (e : AnalysisFault) → ((y : AnalysisFault) × (o ≡ Err y) × (y ≡ e)) → Q e → MatchResult o P Q
at_err {T} P Q o e p q = subst (λ (r : Result T AnalysisFault). MatchResult r P Q) (sym (p.1 ∙ ap (λ (z : AnalysisFault). Err z) p.2)) q
