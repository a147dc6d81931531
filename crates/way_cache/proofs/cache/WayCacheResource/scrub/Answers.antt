use Rattle.std.proofs.Common.{refl}
use Rattle.way_cache.proofs.Calls.{marks-scrub}
use Rattle.way_cache.proofs.cache.WayCacheResource.scrub.Goals as goal

pub returns : goal.returns
returns c =
    let h = c.scrub_in.ensures in
    record {
      said = record { same = refl; scrubs = h };
      within = marks-scrub c.args.self.now.marks.now c.args.way c.scrub_in.result c.scrub_in.new.marks h;
    }
