-- What the answers of a resource stand for.
use Rattle.std.specs.Prelude.{ℕ, min, Bool, true, false}
use Rattle.resource.specs.declared.answer.Progress.{Progress}
use Rattle.resource.specs.declared.answer.Progress.TheVariants.{Done, UnderWay}

-- the scrub call answered that the way is done, and not under way
abbrev pub is_done : Progress → Bool
is_done Done = true
is_done UnderWay = false

-- a cost as 16 bits tell it
abbrev pub told16 : ℕ → ℕ
told16 f = min f 65535
