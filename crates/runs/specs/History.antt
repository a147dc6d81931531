-- The calls since a start and their answers.
use Rattle.std.specs.Prelude.{ℕ, ◌+◌, Bool, true, false, cond, not, ◌&&◌, ◌||◌, List, [], ◌∷◌, Ok, Err, Result, ◌==◌}
use Rattle.resource.specs.Seen.{Seen}
use Rattle.analysis.specs.Floor.{Floor}
use Rattle.analysis.specs.Charges.{allowance}
use Rattle.runs.specs.declared.answer.TickAnswer.{TickAnswer}
use Rattle.runs.specs.declared.answer.TickAnswer.TheVariants.{Rest, Scrub, Run}
use Rattle.runs.specs.declared.fault.CallFault.{CallFault}

-- one call with its answer; of a tick also what was seen of the resource as it began
pub data Event : Type 0 where
  announce : ℕ → Result (Unit {0}) CallFault → Event
  finish : ℕ → Result (Unit {0}) CallFault → Event
  tick : Seen → TickAnswer → Event

-- A history is a list of events, the newest first.

-- the call was refused
abbrev pub refused : Result (Unit {0}) CallFault → Bool
refused (Ok v) = false
refused (Err e) = true

-- the event takes a batch of task i: an announcement of i that is not refused
abbrev pub takes : ℕ → Event → Bool
takes i (announce j r) = i == j && not (refused r)
takes i (finish j r) = false
takes i (tick x a) = false

-- the event finishes task i by call: a finish of i that is not refused
abbrev pub finishes : ℕ → Event → Bool
finishes i (announce j r) = false
finishes i (finish j r) = i == j && not (refused r)
finishes i (tick x a) = false

-- the answer is to run task i
abbrev pub is_run_of : ℕ → TickAnswer → Bool
is_run_of i Rest = false
is_run_of i (Scrub j w p) = false
is_run_of i (Run j ended) = i == j

-- the event is a tick that runs task i
abbrev pub runs : ℕ → Event → Bool
runs i (announce j r) = false
runs i (finish j r) = false
runs i (tick x a) = is_run_of i a

-- the answer is to scrub
abbrev pub is_scrub : TickAnswer → Bool
is_scrub Rest = false
is_scrub (Scrub j w p) = true
is_scrub (Run j ended) = false

-- the event is a tick spent scrubbing
abbrev pub scrubs : Event → Bool
scrubs (announce j r) = false
scrubs (finish j r) = false
scrubs (tick x a) = is_scrub a

-- the event is a tick
abbrev pub is_tick : Event → Bool
is_tick (announce j r) = false
is_tick (finish j r) = false
is_tick (tick x a) = true

-- how many events of the history pass the test
abbrev pub count : (Event → Bool) → List Event → ℕ
count p [] = 0
count p (e ∷ h) = cond (p e) 1 0 + count p h

-- some event of the history passes the test
abbrev pub some : (Event → Bool) → List Event → Bool
some p [] = false
some p (e ∷ h) = p e || some p h

-- the events since the last batch taken of task i; all of them where none was taken
abbrev pub since_batch : ℕ → List Event → List Event
since_batch i [] = []
since_batch i (e ∷ h) = cond (takes i e) [] (e ∷ since_batch i h)

-- a batch of task i has been taken
abbrev pub had_batch : ℕ → List Event → Bool
had_batch i h = some (takes i) h

-- the allowances of all batches taken, added up
abbrev pub allowances : Floor → List Event → ℕ
allowances f [] = 0
allowances f (announce j (Ok v) ∷ h) = allowance f j + allowances f h
allowances f (announce j (Err e) ∷ h) = allowances f h
allowances f (finish j r ∷ h) = allowances f h
allowances f (tick x a ∷ h) = allowances f h
