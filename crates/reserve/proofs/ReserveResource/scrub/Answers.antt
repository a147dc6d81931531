use Rattle.std.proofs.Common.{ℕ, refl, subst, arith}
use Rattle.resource.specs.Meaning.{Scrubbed}
use Rattle.reserve.specs.Reserves.{hidden_ways}
use Rattle.reserve.proofs.Above.{above-scrub}
use Rattle.reserve.proofs.ReserveResource.scrub.Goals as goal

pub returns-in-Some : goal.returns-in-Some
returns-in-Some g c =
    let m = g.R.Resource.meaning in
    let s = c.args.self.now in
    let t = c.scrub.new.self in
    let a = c.scrub.result in
    let h = c.in-Some.ensures.found in
    let call = subst (λ (k : ℕ). Scrubbed m s.rest k a t) h.1 c.scrub.ensures in
    record {
      said = record { hidden = refl; rest = λ i. call; past = λ i. absurd (omega (arith, h.0)) };
      within = above-scrub (hidden_ways s) (m.seen s.rest) c.args.way a (m.seen t) call.within;
    }
