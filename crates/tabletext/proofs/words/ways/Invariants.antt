use Rattle.std.proofs.Common.{◌≡◌, ◌≤◌, drop}
use Rattle.sets.specs.Sets.{nobody}
use Rattle.tabletext.specs.Words.{rising, ways_onto}
use Rattle.tabletext.proofs.words.ways.Given as goal

abbrev pub invariant-loop-b : goal.invariant-loop-b
invariant-loop-b l = (rising 48 l.bytes ≡ rising l.least (drop l.b-index l.bytes)) × (ways_onto (nobody 8) l.bytes ≡ ways_onto l.set (drop l.b-index l.bytes)) × (48 ≤ l.least)
