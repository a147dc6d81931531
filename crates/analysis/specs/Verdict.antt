-- What the analysis answers.
use Rattle.std.specs.Prelude.{◌≡◌, ℕ, ◌<◌, ◌≤◌, Bool, ◌&&◌, Ok, Err, Result, nat_le, nat_lt}
use Rattle.sets.specs.Below.{some_below, IsLowest, NoneBelow}
use Rattle.resource.specs.Answers.{told16}
use Rattle.resource.specs.Seen.{Seen}
use Rattle.taskset.specs.Table.{Table}
use Rattle.analysis.specs.declared.fault.AnalysisFault.{AnalysisFault}
use Rattle.analysis.specs.declared.fault.AnalysisFault.TheVariants.{NoTask, NoWay, DearWay, ShortList, NoBound}
use Rattle.analysis.specs.Bounds.{InTime}
use Rattle.analysis.specs.Floor.{Floor}
use Rattle.analysis.specs.FloorOf.{floor_of}
use Rattle.analysis.specs.Least.{Unbounded}

-- the floor of a table on a resource, by the costs that the resource answers
abbrev pub asked_floor : Table → Seen → Floor
asked_floor t x = floor_of t (λ w. told16 (x.cost w))

-- task i uses a way that a resource of so many ways does not have
unfoldable pub strays : Floor → ℕ → ℕ → Bool
strays f ways i = some_below f.ways (λ w. nat_le ways w && f.uses i w)

-- way w costs over 1,000 calls, and some task uses it
unfoldable pub dear : Floor → ℕ → Bool
dear f w = nat_lt 1000 (f.cost w) && some_below f.tasks (λ i. f.uses i w)

-- task i has a bound within its deadline
abbrev pub Bounded : Floor → ℕ → Type 0
Bounded f i = (b : ℕ) × InTime f i b

-- task i is the lowest that has none
pub record FirstUnbounded (f : Floor) (i : ℕ) : Type 0 where
  pub below : i < f.tasks
  pub fails : Unbounded f i
  pub lowest : (k : ℕ) → k < i → Bounded f k

-- the refusal of a floor whose bounds were looked for
abbrev pub Unsettled : Floor → AnalysisFault → Type 0
Unsettled f NoTask = ⊥
Unsettled f (NoWay task) = ⊥
Unsettled f (DearWay way) = ⊥
Unsettled f ShortList = ⊥
Unsettled f (NoBound task) = FirstUnbounded f task

-- the bounds may be looked for: there is a task, each of its ways is there, no used way is dear, and both lists have room
pub record Ready (f : Floor) (ways room : ℕ) : Type 0 where
  pub some : 0 < f.tasks
  pub there : NoneBelow f.tasks (strays f ways)
  pub cheap : NoneBelow f.ways (dear f)
  pub fits : f.tasks ≤ room

-- when each refusal is given; a later one only where no earlier one is
abbrev pub Refused : Floor → ℕ → ℕ → AnalysisFault → Type 0
Refused f ways room NoTask = f.tasks ≡ 0
Refused f ways room (NoWay task) = IsLowest f.tasks (strays f ways) task
Refused f ways room (DearWay way) = (0 < f.tasks) × NoneBelow f.tasks (strays f ways) × IsLowest f.ways (dear f) way
Refused f ways room ShortList = (0 < f.tasks) × NoneBelow f.tasks (strays f ways) × NoneBelow f.ways (dear f) × (room < f.tasks)
Refused f ways room (NoBound task) = Ready f ways room × FirstUnbounded f task

-- the answer for a floor on a resource of so many ways, where the shorter list has so much room
abbrev pub Verdict : Floor → ℕ → ℕ → Result (Unit {0}) AnalysisFault → Type 0
Verdict f ways room (Ok u) = Ready f ways room × ((i : ℕ) → i < f.tasks → Bounded f i)
Verdict f ways room (Err e) = Refused f ways room e
