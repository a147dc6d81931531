-- A list of rivals.
use Rattle.std.specs.Prelude.{ℕ, List, slice_index_or}
use Rattle.analysis.specs.declared.rivals.Rival.{Rival}

-- the one in place j of the list
abbrev pub rival_in : List Rival → ℕ → Rival
rival_in all j = slice_index_or all j (record { period = 0; take = 0 })
