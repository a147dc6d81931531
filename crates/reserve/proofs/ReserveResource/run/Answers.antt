use Rattle.std.proofs.Common.{◌+◌, ◌≤◌, refl, arith}
use Rattle.std.proofs.lemmas.Bool.Decides.{nat_tests}
use Rattle.reserve.specs.Reserves.{hidden_ways, reserve_seen}
use Rattle.reserve.proofs.Above.{above-run, raised-named}
use Rattle.reserve.proofs.ReserveResource.run.Goals as goal

pub returns : goal.returns
returns g c =
    let m = g.R.Resource.meaning in
    let s = c.args.self.now in
    let k = hidden_ways s in
    let ways = c.args.ways in
    let below = c.all_below-below.result in
    let few = c.run.ensures.within.before.few in
    let l : (reserve_seen m s).ways + k ≤ 8 = omega arith in
    let named = raised-named k (reserve_seen m s).ways ways below l c.all_below-below.ensures in
    record {
      said = record { hidden = refl; below = below; named = named; spared = λ w h. let u = c.all_below-below.ensures w in grind (arith, nat_tests); rest = c.run.ensures };
      within = above-run k (m.seen s.rest) ways below named c.args.task (m.seen c.run.new.self) c.run.ensures.within;
    }
