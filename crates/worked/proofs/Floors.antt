-- The worked floors, each by computing.
use Rattle.std.proofs.Common.{ℕ, Ok, Err, refl, lit<}
use Rattle.sets.specs.Below.{some_below}
use Rattle.sets.specs.Member.{member}
use Rattle.sets.specs.Sets.{has, nobody, with_member}
use Rattle.analysis.specs.declared.fault.AnalysisFault.TheVariants.{NoBound}
use Rattle.analysis.specs.Bounds.{IsBound, split_demand, whole_demand}
use Rattle.analysis.specs.Charges.{guarded, guard_cost, scrub_cost, resume_below, resume_cost, interference, dearest, hold_cost, blocking}
use Rattle.analysis.specs.FloorOf.{floor_of, figures_at}
use Rattle.analysis.specs.Verdict.{Bounded, Ready, Verdict, strays, dear}
use Rattle.worked.specs.Tables.{line, alone, on_cache}
use Rattle.worked.specs.Worked.{Comes, WorkedFloors}
use Rattle.worked.proofs.Runs.{run-stands}
use Rattle.worked.proofs.Computed.{comes, missed, of_none, of_one, of_three, of_two, ready_by, split_by, whole_by}

-- pick, seal and send on one way, whatever send's deadline
pick-bound : (d : ℕ) → IsBound (on_cache (line 0 0 0 d)) 0 7
unfolding floor_of figures_at has nobody with_member member some_below guarded guard_cost scrub_cost resume_below resume_cost interference dearest hold_cost blocking split_demand whole_demand
pick-bound d = split_by (on_cache (line 0 0 0 d)) 0 7 refl refl

seal-bound : (d : ℕ) → IsBound (on_cache (line 0 0 0 d)) 1 12
unfolding floor_of figures_at has nobody with_member member some_below guarded guard_cost scrub_cost resume_below resume_cost interference dearest hold_cost blocking split_demand whole_demand
seal-bound d = whole_by (on_cache (line 0 0 0 d)) 1 7 12 refl refl refl

send-bound : (d : ℕ) → IsBound (on_cache (line 0 0 0 d)) 2 59
unfolding floor_of figures_at has nobody with_member member some_below guarded guard_cost scrub_cost resume_below resume_cost interference dearest hold_cost blocking split_demand whole_demand
send-bound d = split_by (on_cache (line 0 0 0 d)) 2 59 refl refl

pick : (d : ℕ) → Comes (on_cache (line 0 0 0 d)) 0 7 3
unfolding floor_of figures_at
pick d = comes (on_cache (line 0 0 0 d)) 0 7 3 (pick-bound d) refl refl

seal : (d : ℕ) → Comes (on_cache (line 0 0 0 d)) 1 12 8
unfolding floor_of figures_at
seal d = comes (on_cache (line 0 0 0 d)) 1 12 8 (seal-bound d) refl refl

ready : (d : ℕ) → Ready (on_cache (line 0 0 0 d)) 8 3
unfolding floor_of figures_at has nobody with_member member some_below strays dear
ready d = ready_by (on_cache (line 0 0 0 d)) 8 3 refl

-- send's own deadline tells whether the floor is accepted
send-60 : Comes (on_cache (line 0 0 0 60)) 2 59 1
unfolding floor_of figures_at
send-60 = comes (on_cache (line 0 0 0 60)) 2 59 1 (send-bound 60) refl refl

send-59 : Comes (on_cache (line 0 0 0 59)) 2 59 0
unfolding floor_of figures_at
send-59 = comes (on_cache (line 0 0 0 59)) 2 59 0 (send-bound 59) refl refl

accepted : (d s : ℕ) → Comes (on_cache (line 0 0 0 d)) 2 59 s → Verdict (on_cache (line 0 0 0 d)) 8 3 (Ok tt)
unfolding floor_of
accepted d s h = (ready d, of_three (Bounded (on_cache (line 0 0 0 d))) (7, (pick d).bound) (12, (seal d).bound) (59, h.bound))

late : Verdict (on_cache (line 0 0 0 58)) 8 3 (Err (NoBound 2))
unfolding floor_of figures_at
late = (ready 58, record { below = lit< tt; fails = missed (on_cache (line 0 0 0 58)) 2 59 (send-bound 58) refl; lowest = of_two (Bounded (on_cache (line 0 0 0 58))) (7, (pick 58).bound) (12, (seal 58).bound) })

-- each on its own way
own-pick-bound : IsBound (on_cache (line 0 1 2 60)) 0 3
unfolding floor_of figures_at has nobody with_member member some_below guarded guard_cost scrub_cost resume_below resume_cost interference dearest hold_cost blocking split_demand whole_demand
own-pick-bound = split_by (on_cache (line 0 1 2 60)) 0 3 refl refl

own-seal-bound : IsBound (on_cache (line 0 1 2 60)) 1 6
unfolding floor_of figures_at has nobody with_member member some_below guarded guard_cost scrub_cost resume_below resume_cost interference dearest hold_cost blocking split_demand whole_demand
own-seal-bound = whole_by (on_cache (line 0 1 2 60)) 1 3 6 refl refl refl

own-send-bound : IsBound (on_cache (line 0 1 2 60)) 2 9
unfolding floor_of figures_at has nobody with_member member some_below guarded guard_cost scrub_cost resume_below resume_cost interference dearest hold_cost blocking split_demand whole_demand
own-send-bound = split_by (on_cache (line 0 1 2 60)) 2 9 refl refl

own-pick : Comes (on_cache (line 0 1 2 60)) 0 3 7
unfolding floor_of figures_at
own-pick = comes (on_cache (line 0 1 2 60)) 0 3 7 own-pick-bound refl refl

own-seal : Comes (on_cache (line 0 1 2 60)) 1 6 14
unfolding floor_of figures_at
own-seal = comes (on_cache (line 0 1 2 60)) 1 6 14 own-seal-bound refl refl

own-send : Comes (on_cache (line 0 1 2 60)) 2 9 51
unfolding floor_of figures_at
own-send = comes (on_cache (line 0 1 2 60)) 2 9 51 own-send-bound refl refl

own-ready : Ready (on_cache (line 0 1 2 60)) 8 3
unfolding floor_of figures_at has nobody with_member member some_below strays dear
own-ready = ready_by (on_cache (line 0 1 2 60)) 8 3 refl

own-taken : Verdict (on_cache (line 0 1 2 60)) 8 3 (Ok tt)
unfolding floor_of
own-taken = (own-ready, of_three (Bounded (on_cache (line 0 1 2 60))) (3, own-pick.bound) (6, own-seal.bound) (9, own-send.bound))

alone-bound-5 : IsBound (on_cache (alone 5)) 0 5
unfolding floor_of figures_at has nobody with_member member some_below guarded guard_cost scrub_cost resume_below resume_cost interference dearest hold_cost blocking split_demand whole_demand
alone-bound-5 = whole_by (on_cache (alone 5)) 0 0 5 refl refl refl

alone-ready-5 : Ready (on_cache (alone 5)) 8 1
unfolding floor_of figures_at has nobody with_member member some_below strays dear
alone-ready-5 = ready_by (on_cache (alone 5)) 8 1 refl

alone-bound-6 : IsBound (on_cache (alone 6)) 0 6
unfolding floor_of figures_at has nobody with_member member some_below guarded guard_cost scrub_cost resume_below resume_cost interference dearest hold_cost blocking split_demand whole_demand
alone-bound-6 = whole_by (on_cache (alone 6)) 0 0 6 refl refl refl

alone-ready-6 : Ready (on_cache (alone 6)) 8 1
unfolding floor_of figures_at has nobody with_member member some_below strays dear
alone-ready-6 = ready_by (on_cache (alone 6)) 8 1 refl

just : Comes (on_cache (alone 5)) 0 5 0
unfolding floor_of figures_at
just = comes (on_cache (alone 5)) 0 5 0 alone-bound-5 refl refl

alone-taken : Verdict (on_cache (alone 5)) 8 1 (Ok tt)
unfolding floor_of
alone-taken = (alone-ready-5, of_one (Bounded (on_cache (alone 5))) (5, just.bound))

long : Verdict (on_cache (alone 6)) 8 1 (Err (NoBound 0))
unfolding floor_of figures_at
long = (alone-ready-6, record { below = lit< tt; fails = missed (on_cache (alone 6)) 0 6 alone-bound-6 refl; lowest = of_none (Bounded (on_cache (alone 6))) })

pub floors-stand : WorkedFloors
floors-stand = record {
  shared = record { pick = pick 60; seal = seal 60; send = send-60; taken = accepted 60 1 send-60; tight = send-59; still = accepted 59 0 send-59; late = late };
  own = record { pick = own-pick; seal = own-seal; send = own-send; taken = own-taken };
  alone = record { just = just; taken = alone-taken; long = long };
  run = run-stands;
}
