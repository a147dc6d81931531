-- What the tasks of higher priority take.
use Rattle.std.specs.Prelude.{◌≡◌, ℕ, ◌+◌, ◌*◌, ◌/◌, ◌<◌}
use Rattle.taskset.specs.declared.task.Kind.{Kind}
use Rattle.taskset.specs.declared.task.Kind.TheVariants.{Split, Whole}
use Rattle.analysis.specs.declared.rivals.Rival.{Rival}
use Rattle.analysis.specs.declared.rivals.Rivals.{Rivals}
use Rattle.analysis.specs.Sums.{sum_below}
use Rattle.analysis.specs.Bounds.{ceiling}
use Rattle.analysis.specs.Charges.{interference}
use Rattle.analysis.specs.Floor.{Floor}
use Rattle.analysis.specs.RivalIn.{rival_in}

-- how many jobs of a task of period p count in x: for a split task those announced in x ticks, for a whole one also one at their end
abbrev pub jobs_in : Kind → ℕ → ℕ → ℕ
jobs_in Split x p = ceiling x p
jobs_in Whole x p = x / p + 1

-- one of them
abbrev pub rival_at : Rivals → ℕ → Rival
rival_at r j = rival_in r.all j

-- all that they take
unfoldable pub rival_sum : Rivals → Kind → ℕ → ℕ
rival_sum r kind x = sum_below r.count (λ j. jobs_in kind x (rival_at r j).period * (rival_at r j).take)

-- x is task j as task i sees it
pub record RivalOf (f : Floor) (i j : ℕ) (x : Rival) : Type 0 where
  pub period : x.period ≡ f.period j
  pub take : x.take ≡ interference f j i

-- r are the tasks of higher priority than task i
pub record RivalsOf (f : Floor) (i : ℕ) (r : Rivals) : Type 0 where
  pub count : r.count ≡ i
  pub each : (j : ℕ) → j < i → RivalOf f i j (rival_at r j)
