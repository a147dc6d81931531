-- What a start answers, does to the resource, and leaves.
use Rattle.std.specs.Prelude.{◌≡◌, ℕ, ◌<◌, Bool, false, cond, not, List, Ok, Err, Result, ◌==◌, nat_lt}
use Rattle.resource.specs.Answers.{told16}
use Rattle.resource.specs.Seen.{Seen, Sound}
use Rattle.resource.specs.Meaning.{Meaning}
use Rattle.resource.specs.Until.{EveryWayDone}
use Rattle.analysis.specs.declared.plan.Plan.{Plan}
use Rattle.analysis.specs.Floor.{Floor}
use Rattle.analysis.specs.PlanOf.{plan_floor}
use Rattle.analysis.specs.Sums.{first_below}
use Rattle.runs.specs.declared.fault.StartFault.{StartFault}
use Rattle.runs.specs.declared.fault.StartFault.TheVariants.{NoTask, OtherCosts}
use Rattle.runs.specs.State.{Agree, fresh}
use Rattle.runs.specs.Run.{Started}
use Rattle.dispatch.specs.declared.dispatcher.Dispatcher.{Dispatcher}
use Rattle.dispatch.specs.declared.dispatcher.Job.{Job}
use Rattle.dispatch.specs.View.{plan_of, floor, state_of, job_at}

-- every task's age is its period, and none has a job
pub record FreshJobs (f : Floor) (jobs : List Job) : Type 0 where
  pub age : (k : ℕ) → k < f.tasks → (job_at jobs k).age ≡ f.period k
  pub left : (k : ℕ) → k < f.tasks → (job_at jobs k).left ≡ 0

-- the dispatcher's state is that right after a start
abbrev pub Fresh : Dispatcher → Type 0
Fresh d = Agree (floor d) (state_of d) (fresh (floor d))

-- the resource answers another cost for way w than the floor's
abbrev pub differs : Floor → Seen → ℕ → Bool
differs f x w = not (told16 (x.cost w) == f.cost w)

-- a start: refused without a task, then where a way's cost is another than the floor's, at the lowest such way
unfoldable pub starting : Floor → Seen → Result (Unit {0}) StartFault
starting f x =
    cond (f.tasks == 0) (Err NoTask) (cond (nat_lt (first_below f.ways (differs f x)) f.ways) (Err (OtherCosts (first_below f.ways (differs f x)))) (Ok tt))

-- what scrubbing every way comes to: no trace is left anywhere, and every way's cost, as the resource answers, is the floor's
pub record Ready (f : Floor) (y : Seen) : Type 0 where
  pub sound : Sound y
  pub bare : (w k : ℕ) → y.traces w k ≡ false
  pub costs : (w : ℕ) → w < f.ways → told16 (y.cost w) ≡ f.cost w

-- a dispatcher and a resource right after a start of the plan
pub record Begun {S : Type 0} (m : Meaning S) (p : Plan) (r : S) (e : Dispatcher) (t : S) : Type 0 where
  pub plan : plan_of e ≡ p
  -- every way of the resource was scrubbed until it was done, and there was no other call
  pub calls : EveryWayDone m r t
  pub started : Started (plan_floor p) (state_of e) (m.seen t)

-- the dispatcher and the resource after a start, by its answer: begun, or as they were
abbrev pub StartLeaves : {S : Type 0} → Meaning S → Plan → Dispatcher → S → Result (Unit {0}) StartFault → Dispatcher → S → Type 0
StartLeaves m p d r (Ok v) e t = Begun m p r e t
StartLeaves m p d r (Err fault) e t = (e ≡ d) × (t ≡ r)
