-- The demand of a task.
use Rattle.std.specs.Prelude.{ℕ, ◌+◌}
use Rattle.analysis.specs.declared.demand.Load.{Load}
use Rattle.analysis.specs.Rivals.{rival_sum}

-- the base, and what the jobs of higher priority take
abbrev pub load_sum : Load → ℕ → ℕ
load_sum d x = d.base + rival_sum d.rivals d.kind x
