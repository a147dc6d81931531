-- The law of every run: what is promised of each call since a start, in terms of the calls and answers before it.
use Rattle.std.specs.Prelude.{◌≡◌, ℕ, ◌+◌, ◌<◌, ◌≤◌, Bool, true, false, ◌&&◌, ◌⊎◌, List, [], ◌∷◌, ◌++◌, Result, nat_lt}
use Rattle.resource.specs.Seen.{Seen}
use Rattle.analysis.specs.Floor.{Floor}
use Rattle.runs.specs.declared.answer.TickAnswer.TheVariants.{Run}
use Rattle.runs.specs.declared.fault.CallFault.{CallFault}
use Rattle.runs.specs.History.{Event, announce, tick, refused, takes, finishes, runs, scrubs, is_tick, count, some, since_batch, had_batch, allowances}

-- an announcement of task i would come too early: a batch of it was taken, and fewer ticks than its period have followed the last
abbrev pub early : Floor → ℕ → List Event → Bool
early f i h = had_batch i h && nat_lt (count is_tick (since_batch i h)) (f.period i)

-- Refused exactly when too early: an announcement of a task of the floor.
abbrev pub RefusedIfEarly : Floor → Event → List Event → Type 0
RefusedIfEarly f e h = (i : ℕ) (r : Result (Unit {0}) CallFault) → e ≡ announce i r → i < f.tasks → refused r ≡ early f i h

-- On time: where this event is the deadline tick of a batch of task i, that is the d-th tick after it was taken, with d the deadline,
-- the batch has by then been finished by call or has run its full budget.
abbrev pub OnTime : Floor → Event → List Event → Type 0
OnTime f e h =
    (i : ℕ) (between : List Event) (batch : Event) (before : List Event) → i < f.tasks → is_tick e ≡ true → takes i batch ≡ true
    → h ≡ between ++ batch ∷ before → count is_tick between + 1 ≡ f.deadline i
    → (some (finishes i) between ≡ true) ⊎ (count (runs i) (e ∷ between) ≡ f.budget i)

-- Never beyond: a tick runs a task only for a batch taken of it that was not finished by call and has not yet run its full budget.
pub record Owed (f : Floor) (i : ℕ) (h : List Event) : Type 0 where
  pub listed : i < f.tasks
  pub batch : had_batch i h ≡ true
  pub unfinished : some (finishes i) (since_batch i h) ≡ false
  pub unspent : count (runs i) (since_batch i h) < f.budget i

-- No leak: as a tick begins that runs a task, none of the task's ways holds a trace of a task that must not leak to it.
abbrev pub Unleaked : Floor → ℕ → Seen → Type 0
Unleaked f i x = (w k : ℕ) → f.uses i w ≡ true → f.noleak k i ≡ true → x.traces w k ≡ false

-- of every tick that runs a task, both
abbrev pub RunsWell : Floor → Event → List Event → Type 0
RunsWell f e h = (i : ℕ) (ended : Bool) (x : Seen) → e ≡ tick x (Run i ended) → Owed f i h × Unleaked f i x

-- Scrubbing is paid for: the ticks spent scrubbing so far are at most the allowances of all batches taken so far, added up.
abbrev pub PaidFor : Floor → List Event → Type 0
PaidFor f h = count scrubs h ≤ allowances f h

-- what is promised of an event e, with h the events before it
pub record Promised (f : Floor) (e : Event) (h : List Event) : Type 0 where
  pub refused : RefusedIfEarly f e h
  pub on_time : OnTime f e h
  pub runs_well : RunsWell f e h
  pub paid_for : PaidFor f (e ∷ h)

-- the law: it is promised of every event of the history
abbrev pub Kept : Floor → List Event → Type 0
Kept f [] = Unit {0}
Kept f (e ∷ h) = Promised f e h × Kept f h
