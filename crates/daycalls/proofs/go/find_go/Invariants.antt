use Rattle.std.proofs.Common.{◌≡◌, length}
use Rattle.textparts.specs.View.{to_come, text_of}
use Rattle.daycalls.specs.Go.{go_found, after_go}
use Rattle.daycalls.proofs.go.find_go.Given as goal

abbrev pub invariant-loop-line : goal.invariant-loop-line
invariant-loop-line l = (go_found (to_come l.initial.reader) ≡ go_found (to_come l.reader)) × (after_go (to_come l.initial.reader) ≡ after_go (to_come l.reader)) × (text_of l.reader ≡ text_of l.initial.reader)

abbrev pub decreases-loop-line : goal.decreases-loop-line
decreases-loop-line l = length (to_come l.reader)
