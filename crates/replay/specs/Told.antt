-- What is told of a day, the calls that it answers, and the history that it tells.
use Rattle.std.specs.Prelude.{◌≡◌, ℕ, ◌+◌, min, List, [], ◌∷◌, Result}
use Rattle.std.specs.Option.{unwrap_or}
use Rattle.resource.specs.Seen.{Seen}
use Rattle.taskset.specs.declared.task.Task.{Task}
use Rattle.tabletext.specs.Lines.{find_from}
use Rattle.runs.specs.declared.answer.TickAnswer.{TickAnswer}
use Rattle.runs.specs.declared.fault.CallFault.{CallFault}
use Rattle.runs.specs.History.{Event, announce, finish, tick}
use Rattle.daylines.specs.Lines.{with_announced, with_finished, with_odd, with_ticked}
use Rattle.replay.specs.Asked.{Ask, announces, finishes, one_tick, no_call}

-- the number of the task of a name; 255, which is no task's, where there is none
abbrev pub number_of : List ℕ → List Task → List ℕ → ℕ
number_of text tasks name = unwrap_or (find_from text 0 tasks name) 255

-- the number of the tick after tick n, as 32 bits hold it
abbrev pub next_tick : ℕ → ℕ
next_tick n = min (n + 1) 4294967295

-- Over a table text and its tasks, after the bytes told before: these calls were asked for, these bytes tell their answers line by line,
-- they are the events of this history, and the next tick has this number.
pub data Told (text : List ℕ) (tasks : List Task) (front : List ℕ) : List Ask → List ℕ → List Event → ℕ → Type 0 where
  begun : Told text tasks front [] front [] 0
  odd : {asks : List Ask} {out : List ℕ} {h : List Event} {n : ℕ} (place : ℕ) → Told text tasks front asks out h n → Told text tasks front (no_call place ∷ asks) (with_odd out place) h n
  announced : {asks : List Ask} {out : List ℕ} {h : List Event} {n : ℕ} (name : List ℕ) (i : ℕ) (r : Result (Unit {0}) CallFault) → i ≡ number_of text tasks name → Told text tasks front asks out h n → Told text tasks front (announces name ∷ asks) (with_announced out name r) (announce i r ∷ h) n
  finished : {asks : List Ask} {out : List ℕ} {h : List Event} {n : ℕ} (name : List ℕ) (i : ℕ) (r : Result (Unit {0}) CallFault) → i ≡ number_of text tasks name → Told text tasks front asks out h n → Told text tasks front (finishes name ∷ asks) (with_finished out name r) (finish i r ∷ h) n
  ticked : {asks : List Ask} {out : List ℕ} {h : List Event} {n : ℕ} (x : Seen) (a : TickAnswer) → Told text tasks front asks out h n → Told text tasks front (one_tick ∷ asks) (with_ticked out text tasks n a) (tick x a ∷ h) (next_tick n)
