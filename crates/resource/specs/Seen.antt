-- What can be seen of any resource, and the sentences that every call on it keeps.
-- A way is one of the parts that are scrubbed one at a time; a trace is what a task leaves on a way by running there.
use Rattle.std.specs.Prelude.{◌≡◌, ℕ, ◌<◌, ◌≤◌, Bool, true, false, not, ◌&&◌, ◌⊎◌, nat_lt}
use Rattle.sets.specs.Below.{some_below}
use Rattle.sets.specs.Sets.{WaySet, has}
use Rattle.resource.specs.declared.answer.Progress.{Progress}
use Rattle.resource.specs.Answers.{is_done}

-- the number of ways (W), the cost of each in scrub calls (f), the tasks whose traces it holds (T),
-- and the scrub calls in a row that it may still need (N)
pub record Seen : Type 0 where
  pub ways : ℕ
  pub cost : ℕ → ℕ
  -- of a way and a task
  pub traces : ℕ → ℕ → Bool
  pub left : ℕ → ℕ

-- the way holds no trace of any of the tasks 0 to 15
abbrev pub clean : Seen → ℕ → Bool
clean x w = not (some_below 16 (x.traces w))

-- what holds of every resource at every time
pub record Sound (x : Seen) : Type 0 where
  -- there are at most eight ways
  pub few : x.ways ≤ 8
  -- a way costs at least one call, and needs from one call to as many as it costs
  pub priced : (w : ℕ) → w < x.ways → 1 ≤ x.cost w
  pub least : (w : ℕ) → 1 ≤ x.left w
  pub most : (w : ℕ) → w < x.ways → x.left w ≤ x.cost w
  -- only the tasks 0 to 15 leave traces
  pub tasks : (w k : ℕ) → 16 ≤ k → x.traces w k ≡ false
  -- a way at or past W costs nothing, is clean, and one call finds it done
  pub free : (w : ℕ) → x.ways ≤ w → x.cost w ≡ 0
  pub bare : (w : ℕ) → x.ways ≤ w → (k : ℕ) → x.traces w k ≡ false
  pub once : (w : ℕ) → x.ways ≤ w → x.left w ≡ 1

-- the number of ways and their costs have stayed
pub record Fixed (x y : Seen) : Type 0 where
  pub ways : y.ways ≡ x.ways
  pub cost : (w : ℕ) → y.cost w ≡ x.cost w

-- way w has kept its traces and the calls that it may need
pub record Kept (x y : Seen) (w : ℕ) : Type 0 where
  pub traces : (k : ℕ) → y.traces w k ≡ x.traces w k
  pub left : y.left w ≡ x.left w

-- a run call for the task on these ways bears on way w: the task is one of 0 to 15, and the way is there and named
abbrev pub touched : Seen → ℕ → WaySet → ℕ → Bool
touched x task ways w = nat_lt task 16 && (nat_lt w x.ways && has ways w)

-- one run call: each way that it bears on holds the task, and beyond it only tasks that this way held before; all others are kept
pub record RunOn (x : Seen) (task : ℕ) (ways : WaySet) (y : Seen) : Type 0 where
  pub before : Sound x
  pub after : Sound y
  pub fixed : Fixed x y
  pub holds : (w : ℕ) → touched x task ways w ≡ true → y.traces w task ≡ true
  pub only : (w k : ℕ) → touched x task ways w ≡ true → y.traces w k ≡ true → (k ≡ task) ⊎ (x.traces w k ≡ true)
  pub other : (w : ℕ) → touched x task ways w ≡ false → Kept x y w

-- one scrub call on a way: done leaves it without traces; under way leaves it with fewer calls to make; a trace is never added;
-- a way at or past W is done; all other ways are kept
pub record ScrubOn (x : Seen) (way : ℕ) (answer : Progress) (y : Seen) : Type 0 where
  pub before : Sound x
  pub after : Sound y
  pub fixed : Fixed x y
  pub done : is_done answer ≡ true → (k : ℕ) → y.traces way k ≡ false
  pub falls : is_done answer ≡ false → y.left way < x.left way
  pub adds : (k : ℕ) → y.traces way k ≡ true → x.traces way k ≡ true
  pub past : x.ways ≤ way → is_done answer ≡ true
  pub other : (w : ℕ) → (w ≡ way → ⊥) → Kept x y w
