-- What each call answers, and the state after it.
use Rattle.std.specs.Prelude.{◌≡◌, ℕ, ◌+◌, ◌-◌, ◌<◌, ◌≤◌, min, Bool, cond, not, ◌&&◌, ◌||◌, Ok, Err, Result, ◌==◌, nat_lt}
use Rattle.sets.specs.Sets.{has, WaySet}
use Rattle.refusal.specs.Outcome.{after, answered}
use Rattle.resource.specs.Answers.{is_done}
use Rattle.resource.specs.Seen.{Seen, RunOn, ScrubOn}
use Rattle.analysis.specs.Floor.{Floor}
use Rattle.runs.specs.declared.answer.TickAnswer.{TickAnswer}
use Rattle.runs.specs.declared.answer.TickAnswer.TheVariants.{Rest, Scrub, Run}
use Rattle.runs.specs.declared.fault.CallFault.{CallFault}
use Rattle.runs.specs.declared.fault.CallFault.TheVariants.{Unlisted, TooEarly, NotRunning}
use Rattle.runs.specs.State.{State, Agree, chosen, scrub_way}

-- f with v in place j
abbrev pub put : (ℕ → ℕ) → ℕ → ℕ → ℕ → ℕ
put f j v k = cond (k == j) v (f k)

-- a batch of task i is taken: its age is 0, and it has its whole budget
unfoldable pub taken : Floor → ℕ → State → State
taken f i s = record { age = put s.age i 0; left = put s.left i (f.budget i); holder = s.holder; under = s.under; ran = s.ran; recorded = s.recorded }

-- an announcement of task i: refused where there is no such task, then where it comes too early
unfoldable pub announcing : Floor → ℕ → State → Result State CallFault
announcing f i s = cond (nat_lt i f.tasks) (cond (nat_lt (s.age i) (f.period i)) (Err TooEarly) (Ok (taken f i s))) (Err Unlisted)

-- the job of task i is over, and nobody has the core
unfoldable pub closed : Floor → ℕ → State → State
closed f i s = record { age = s.age; left = put s.left i 0; holder = f.tasks; under = s.under; ran = f.tasks; recorded = s.recorded }

-- a finish of task i: refused where there is no such task, then where the last tick did not run it and leave its job unended
unfoldable pub finishing : Floor → ℕ → State → Result State CallFault
finishing f i s = cond (nat_lt i f.tasks) (cond (s.ran == i) (Ok (closed f i s)) (Err NotRunning)) (Err Unlisted)

-- every task's age after one more tick
abbrev pub older : Floor → State → ℕ → ℕ
older f s k = min (s.age k + 1) (f.period k)

-- after a tick in which nobody had the core
unfoldable pub rested : Floor → State → State
rested f s = record { age = older f s; left = s.left; holder = f.tasks; under = f.ways; ran = f.tasks; recorded = s.recorded }

-- after a scrub call on way w for task i: done empties the way's record, otherwise the way is under scrub
unfoldable pub scrubbed : Floor → ℕ → ℕ → Bool → State → State
scrubbed f i w done s = record {
  age = older f s;
  left = s.left;
  holder = i;
  under = cond done f.ways w;
  ran = f.tasks;
  recorded = λ v k. s.recorded v k && not (done && v == w);
}

-- the job of task i ends with a tick that runs it now
abbrev pub last_tick : State → ℕ → Bool
last_tick s i = s.left i - 1 == 0

-- after a tick that ran task i: its ways record it, and it has one tick less of its budget
unfoldable pub served : Floor → ℕ → State → State
served f i s = record {
  age = older f s;
  left = put s.left i (s.left i - 1);
  holder = cond (last_tick s i) f.tasks i;
  under = f.ways;
  ran = cond (last_tick s i) f.tasks i;
  recorded = λ w k. s.recorded w k || (k == i && f.uses i w);
}

-- an announcement: its answer, the state after it, and nothing done to the resource
pub record Announced (f : Floor) (s : State) (x : Seen) (i : ℕ) (r : Result (Unit {0}) CallFault) (t : State) (y : Seen) : Type 0 where
  pub answer : r ≡ answered tt (announcing f i s)
  pub later : Agree f t (after s (announcing f i s))
  pub untouched : y ≡ x

-- a finish, likewise
pub record Finished (f : Floor) (s : State) (x : Seen) (i : ℕ) (r : Result (Unit {0}) CallFault) (t : State) (y : Seen) : Type 0 where
  pub answer : r ≡ answered tt (finishing f i s)
  pub later : Agree f t (after s (finishing f i s))
  pub untouched : y ≡ x

-- a tick without a task that has a job: no call on the resource
pub record Rested (f : Floor) (s : State) (x : Seen) (t : State) (y : Seen) : Type 0 where
  pub nobody : f.tasks ≤ chosen f s
  pub later : Agree f t (rested f s)
  pub untouched : y ≡ x

-- a tick that scrubs: one scrub call on the way, and no other call
pub record Scrubs (f : Floor) (s : State) (x : Seen) (i w : ℕ) (done : Bool) (t : State) : Type 0 where
  pub task : i ≡ chosen f s
  pub listed : i < f.tasks
  pub way : w ≡ scrub_way f s i
  pub there : w < f.ways
  pub later : Agree f t (scrubbed f i w done s)

-- a tick that runs: one run call on all ways of the task, and no other call
pub record Runs (f : Floor) (s : State) (x : Seen) (i : ℕ) (ended : Bool) (t : State) (y : Seen) : Type 0 where
  pub task : i ≡ chosen f s
  pub listed : i < f.tasks
  pub clean : f.ways ≤ scrub_way f s i
  pub ends : ended ≡ last_tick s i
  pub later : Agree f t (served f i s)
  pub ways : WaySet
  pub its : (w : ℕ) → has ways w ≡ f.uses i w
  pub call : RunOn x i ways y

-- a tick, by its answer
abbrev pub Ticked : Floor → State → Seen → TickAnswer → State → Seen → Type 0
Ticked f s x Rest t y = Rested f s x t y
Ticked f s x (Scrub i w p) t y = Scrubs f s x i w (is_done p) t × ScrubOn x w p y
Ticked f s x (Run i ended) t y = Runs f s x i ended t y
