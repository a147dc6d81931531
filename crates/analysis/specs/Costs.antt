-- What the costs of the ways say.
use Rattle.std.specs.Prelude.{ℕ, slice_index}
use Rattle.analysis.specs.declared.costs.WayCosts.{WayCosts}

-- what way w costs; 0 past the last
abbrev pub cost_of : WayCosts → ℕ → ℕ
cost_of c w = slice_index c.scrubs w
