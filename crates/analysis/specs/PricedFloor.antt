-- The floor of a draft on ways of known costs.
use Rattle.analysis.specs.declared.priced.PricedDraft.{PricedDraft}
use Rattle.analysis.specs.Costs.{cost_of}
use Rattle.analysis.specs.Floor.{Floor}
use Rattle.analysis.specs.FloorOf.{floor_of}

-- that of its table and its costs
abbrev pub priced_floor : PricedDraft → Floor
priced_floor p = floor_of p.draft (cost_of p.costs)
