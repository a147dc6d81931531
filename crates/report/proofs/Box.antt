-- The analysis on an empty way cache of eight ways.
use Rattle.std.proofs.Common.{◌≡◌, ℕ, ◌-◌, ◌/◌, ◌^◌, ◌<◌, min, Bool, true, false, cond, ltb, List, length, get_or, replicate, sym, refl, ap, ◌∙◌, subst, arith}
use mathlib.Core.Path.{fun_ext}
use lib.ListN.{length-replicate}
use Rattle.resource.specs.Answers.{told16}
use Rattle.resource.specs.Seen.{Seen}
use Rattle.taskset.specs.Table.{Table, IsLawful, count}
use Rattle.analysis.specs.declared.plan.Plan.{Plan}
use Rattle.analysis.specs.After.{PlanFor}
use Rattle.analysis.specs.Bounds.{InTime}
use Rattle.analysis.specs.Floor.{Floor}
use Rattle.analysis.specs.FloorOf.{floor_of}
use Rattle.analysis.specs.PlanOf.{plan_bound}
use Rattle.analysis.specs.Verdict.{asked_floor}
use Rattle.analysis.specs.Written.{Written}
use Rattle.analysis.proofs.Floors.{in-range}
use Rattle.way_cache.specs.Marks.{marks_seen, ways_in}
use Rattle.report.specs.Report.{box_floor, Settled}

-- an empty cache of eight ways has 256 marks
pub empty-marks : (marks : List ℕ) → marks ≡ replicate 256 255 → length marks ≡ 256
empty-marks marks e = ap length e ∙ length-replicate {A = ℕ} _ 255

-- 256 marks are eight ways
pub eight-ways : (marks : List ℕ) → length marks ≡ 256 → ways_in marks ≡ 8
eight-ways marks e = ap (λ (n : ℕ). min (n / 32) 8) e

told-cost : (b : Bool) → told16 (cond b 2 0) ≡ cond b 2 0
told-cost true = refl
told-cost false = refl

-- so the floor asked of them is the box's
pub asked-box : (t : Table) (marks : List ℕ) → length marks ≡ 256 →
    asked_floor t (marks_seen marks) ≡ box_floor t
asked-box t marks e =
    let two = λ (n w : ℕ). cond (ltb w n) 2 0 in
    ap (floor_of t) (fun_ext (λ w. told-cost (ltb w (ways_in marks)) ∙ ap (λ n. two n w) (eight-ways marks e)))

-- what an accepting analysis on the box leaves in two lists
pub settled : (t : Table) (x : Seen) (p : Plan) (b0 s0 bounds slacks : List ℕ) →
    asked_floor t x ≡ box_floor t → PlanFor t x p → Written (count t) (plan_bound p) b0 bounds →
    Written (count t) (λ i. (asked_floor t x).deadline i - plan_bound p i) s0 slacks →
    Settled t bounds slacks
unfolding floor_of
settled t x p b0 s0 bounds slacks box plan b s = record {
  bound = λ i l.
      let met = subst (λ (f : Floor). InTime f i (plan_bound p i)) box (plan.bounds i l) in
      subst (λ (b : ℕ). InTime (box_floor t) i b) (sym (b.first i l)) met;
  slack = λ i l.
      s.first i l ∙ ap (λ (f : Floor). f.deadline i - plan_bound p i) box
      ∙ ap (λ (b : ℕ). (box_floor t).deadline i - b) (sym (b.first i l));
}

-- bounds and slacks are within the deadlines, and these within 1,000,000
pub both-small : (t : Table) (bounds slacks : List ℕ) (i : ℕ) → IsLawful t → Settled t bounds slacks →
    i < count t → (get_or bounds i 0 < 10 ^ 7) × (get_or slacks i 0 < 10 ^ 7)
unfolding floor_of
both-small t bounds slacks i law s l =
    let due = in-range t law (λ w. cond (ltb w 8) 2 0) i l in
    let met = (s.bound i l).met in
    let slack = s.slack i l in
    (omega (arith, due.within, due.longest, met), omega (arith, due.within, due.longest, slack))
