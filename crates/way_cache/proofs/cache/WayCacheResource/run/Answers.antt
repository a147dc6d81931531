use Rattle.std.proofs.Common.{refl}
use Rattle.way_cache.proofs.Calls.{marks-run}
use Rattle.way_cache.proofs.cache.WayCacheResource.run.Goals as goal

pub returns : goal.returns
returns c =
    let h = c.run_in.ensures in
    record {
      said = record { same = refl; writes = h };
      within = marks-run c.args.self.now.marks.now c.args.task c.args.ways c.args.address c.run_in.new.marks h;
    }
