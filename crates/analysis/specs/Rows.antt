-- What is kept of each task for the charges.
use Rattle.std.specs.Prelude.{◌≡◌, ℕ, ◌<◌, List, slice_index_or}
use Rattle.analysis.specs.declared.priced.PricedDraft.{PricedDraft}
use Rattle.analysis.specs.declared.row.Row.{Row}
use Rattle.analysis.specs.Charges.{scrub_cost, dearest}
use Rattle.analysis.specs.FloorOf.{figures_at, no_figures}
use Rattle.analysis.specs.PricedFloor.{priced_floor}

-- the row of task i
abbrev pub row_of : PricedDraft → ℕ → Row
row_of p i = record { figures = figures_at p.draft.tasks i; scrub = scrub_cost (priced_floor p) i; dearest = dearest (priced_floor p) i }

-- the row in place i of the list
abbrev pub row_at : List Row → ℕ → Row
row_at rows i = slice_index_or rows i (record { figures = no_figures; scrub = 0; dearest = 0 })

-- the list has the rows of the numbers below sixteen
abbrev pub Rows : PricedDraft → List Row → Type 0
Rows p rows = (i : ℕ) → i < 16 → row_at rows i ≡ row_of p i
