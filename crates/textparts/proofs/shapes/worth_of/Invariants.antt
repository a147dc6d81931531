use Rattle.std.proofs.Common.{◌≡◌, ◌^◌, ◌<◌, true, drop}
use Rattle.textparts.specs.declared.bytes.Class.TheVariants.{Digit}
use Rattle.textparts.specs.Bytes.{has, each}
use Rattle.textparts.specs.Shapes.{worth}
use Rattle.textparts.proofs.shapes.worth_of.Given as goal

abbrev pub invariant-loop-b : goal.invariant-loop-b
invariant-loop-b l = (each (has Digit) (drop l.b-index l.bytes) ≡ true) × (worth 0 l.bytes ≡ worth l.value (drop l.b-index l.bytes)) × (l.value < 10 ^ l.b-index)
