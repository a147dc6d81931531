use Rattle.std.proofs.Common.{◌≡◌, ℕ, ◌≤◌, Bool, true, ap, ⊎_elim, add-one, arith}
use Rattle.std.proofs.lemmas.Bool.Decides.{nat_tests}
use Rattle.sets.specs.Below.{some_below}
use Rattle.sets.specs.Sets.{has}
use Rattle.sets.proofs.Below.{bool_tells, some_at, some-true}
use Rattle.taskset.specs.declared.task.Figures.{Figures}
use Rattle.analysis.specs.Charges.{guarded, threatens}
use Rattle.analysis.specs.FloorOf.{floor_of}
use Rattle.analysis.specs.PricedFloor.{priced_floor}
use Rattle.analysis.proofs.priced.PricedDraft.guarded_ways.Goals as goal

pub loop-other-init : goal.loop-other-init
unfolding some_below
loop-other-init c w = let none = c.empty-guarded.ensures.members w in grind (arith, none)

pub loop-other-preserved : goal.loop-other-preserved
unfolding some_below
loop-other-preserved c w =
    let before = c.loop-other.invariant w in
    let threat = c.threats.ensures w in
    let common = c.intersection.ensures w in
    let both = c.union-guarded.ensures w in
    rw add-one (grind arith)

-- what passes below a limit passes below a higher one
still : (m n : ℕ) (f : ℕ → Bool) → m ≤ n → some_below m f ≡ true → some_below n f ≡ true
still m n f l e = let h = some_at m f e in some-true n f h.0 (omega (arith, h.1)) h.2

pub returns-then-eq : goal.returns-then-eq
unfolding guarded floor_of
returns-then-eq c w =
    let f = priced_floor c.args.self.now in
    let test = λ (k : ℕ). threatens f k c.args.task w in
    let its = ap (λ (x : Figures). has x.ways w) c.figures_at.ensures in
    let bits : c.loop-other.guarded.bits ≡ c.figures_at.result.ways.bits = let t = c.if-eq.true in let e = c.eq.ensures in grind (arith, nat_tests) in
    let same : has c.loop-other.guarded w ≡ has c.figures_at.result.ways w = ap (λ (b : ℕ). has {n = 8} (record { bits = b }) w) bits in
    let now = c.loop-other.invariant w in
    ⊎_elim
    (λ p.
    let some : some_below c.loop-other.other test ≡ true = grind (arith, same, now, p) in
    let all = still c.loop-other.other c.count-other-end.result test (omega (arith, c.loop-other-test.true)) some in
    let count = c.count-other-end.ensures.value in
    grind (arith, its, p, ap (λ (n : ℕ). some_below n test) count, all))
    (λ p. grind (arith, its, p))
    (bool_tells (has c.figures_at.result.ways w))

pub returns : goal.returns
unfolding guarded floor_of
returns c w =
    let f = priced_floor c.args.self.now in
    let test = λ (k : ℕ). threatens f k c.args.task w in
    let its = ap (λ (x : Figures). has x.ways w) c.figures_at.ensures in
    let now = c.loop-other.invariant w in
    let count = ap (λ (n : ℕ). some_below n test) c.count-other-end.ensures.value in
    grind (arith, its, now, count)
