use Rattle.std.proofs.Common.{◌≡◌, ℕ, subst, arith, add-one}
use Rattle.resource.specs.Until.{EachDone, none, next}
use Rattle.resource.proofs.Laws.{all-cleared}
use Rattle.resource.proofs.until.scrub_every_way.Goals as goal

pub loop-way-init : goal.loop-way-init
loop-way-init g c = none

pub loop-way-preserved : goal.loop-way-preserved
loop-way-preserved g c = rw add-one (next c.loop-way.invariant c.scrub_until_done.ensures.made)

pub returns : goal.returns
returns g c =
    let m = g.R.Resource.meaning in
    let s = c.args.r.now in
    let t = c.loop-way.r in
    let last : c.loop-way.way ≡ (m.seen s).ways = omega arith in
    let all = subst (λ (n : ℕ). EachDone m s n t) last c.loop-way.invariant in
    record { made = all; law = all-cleared m s t c.way_count-way-end.ensures.sound all }
