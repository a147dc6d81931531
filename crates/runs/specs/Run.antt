-- Runs: histories that the calls can bring about, with the state and what is seen of the resource at their end.
use Rattle.std.specs.Prelude.{◌≡◌, ℕ, ◌<◌, ◌≤◌, true, false, List, [], ◌∷◌}
use Rattle.resource.specs.Seen.{Seen, Sound}
use Rattle.analysis.specs.Floor.{Floor}
use Rattle.analysis.specs.Bounds.{Accepted}
use Rattle.runs.specs.State.{State, Agree, fresh}
use Rattle.runs.specs.Calls.{Announced, Finished, Ticked}
use Rattle.runs.specs.History.{Event, announce, finish, tick}
use Rattle.runs.specs.Law.{Kept}

-- what is used of a floor's figures: periods, budgets and deadlines of at least 1, deadlines within periods, ways that are there,
-- and no task that must not leak to itself
pub record Proper (f : Floor) : Type 0 where
  pub budgets : (i : ℕ) → i < f.tasks → 1 ≤ f.budget i
  pub deadlines : (i : ℕ) → i < f.tasks → 1 ≤ f.deadline i
  pub periods : (i : ℕ) → i < f.tasks → f.deadline i ≤ f.period i
  pub ways : (i w : ℕ) → f.uses i w ≡ true → w < f.ways
  pub few : f.tasks ≤ 16
  pub listed : (k i : ℕ) → f.noleak k i ≡ true → (k < f.tasks) × (i < f.tasks)
  pub apart : (i : ℕ) → f.noleak i i ≡ false

-- right after a start: the resource has no trace anywhere, and each way that a task uses is there and costs what the floor says
pub record Started (f : Floor) (s : State) (x : Seen) : Type 0 where
  pub state : Agree f s (fresh f)
  pub sound : Sound x
  pub bare : (w k : ℕ) → x.traces w k ≡ false
  pub there : (i w : ℕ) → i < f.tasks → f.uses i w ≡ true → w < x.ways
  pub priced : (i w : ℕ) → i < f.tasks → f.uses i w ≡ true → x.cost w ≡ f.cost w

-- one call: the event, with the state and the resource before and after it
abbrev pub Step : Floor → State → Seen → Event → State → Seen → Type 0
Step f s x (announce i r) t y = Announced f s x i r t y
Step f s x (finish i r) t y = Finished f s x i r t y
Step f s x (tick z a) t y = (z ≡ x) × Ticked f s x a t y

-- a start, and then any number of calls in any order, refused ones included
pub data Run (f : Floor) : List Event → State → Seen → Type 0 where
  start : {s : State} {x : Seen} → Started f s x → Run f [] s x
  more : {h : List Event} {s t : State} {x y : Seen} {e : Event} → Run f h s x → Step f s x e t y → Run f (e ∷ h) t y

-- the law stands: every run of a proper floor that is accepted keeps it, whatever the resource and the order of the calls
abbrev pub LawStands : Type 0
LawStands = (f : Floor) (bound : ℕ → ℕ) → Proper f → Accepted f bound → (h : List Event) (s : State) (x : Seen) → Run f h s x → Kept f h
