-- What a tick leaves, as the dispatcher's arrays.
use Rattle.std.specs.Prelude.{◌≡◌, ℕ, ◌+◌, ◌<◌, min, ◌&&◌, ◌||◌, List, length, ◌==◌}
use Rattle.sets.specs.Sets.{TaskSet}
use Rattle.analysis.specs.Floor.{Floor}
use Rattle.dispatch.specs.declared.dispatcher.Dispatcher.{Dispatcher}
use Rattle.dispatch.specs.declared.dispatcher.Job.{Job}
use Rattle.dispatch.specs.View.{floor, job_at, record_at}

-- every task's age grows by one tick, as far as its period, and what is left of its budget stays
pub record Older (f : Floor) (old new : List Job) : Type 0 where
  pub places : length new ≡ length old
  pub age : (k : ℕ) → k < f.tasks → (job_at new k).age ≡ min ((job_at old k).age + 1) (f.period k)
  pub left : (k : ℕ) → (job_at new k).left ≡ (job_at old k).left

-- every record after a run of task i
abbrev pub RecordsWith : Dispatcher → ℕ → List TaskSet → Type 0
RecordsWith d i records =
    (w : ℕ) → w < 8 → (k : ℕ)
    → record_at records w k ≡ (record_at d.records w k || (k == i && (floor d).uses i w))
