-- The floor of a sheet.
use Rattle.analysis.specs.declared.sheet.Sheet.{Sheet}
use Rattle.analysis.specs.Floor.{Floor}
use Rattle.analysis.specs.PricedFloor.{priced_floor}

-- that of its draft and costs
abbrev pub sheet_floor : Sheet → Floor
sheet_floor s = priced_floor s.floor
