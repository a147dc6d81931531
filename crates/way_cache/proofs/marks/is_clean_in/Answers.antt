use Rattle.std.proofs.Common.{◌<◌, ◌≤◌, sym, arith}
use Rattle.resource.proofs.Clean.{past-clean}
use Rattle.way_cache.specs.Marks.{ways_in, marks_seen}
use Rattle.way_cache.proofs.Traces.{clean-blocks, marks-sound}
use Rattle.way_cache.proofs.marks.is_clean_in.Goals as goal

pub returns-then-not-has_owner : goal.returns-then-not-has_owner
returns-then-not-has_owner c =
    let xs = c.args.marks.now in
    let l : c.args.way < ways_in xs = omega arith in
    let p = clean-blocks xs c.args.way l in
    grind arith

pub returns-else-not-has_owner : goal.returns-else-not-has_owner
returns-else-not-has_owner c =
    let xs = c.args.marks.now in
    let l : c.args.way < ways_in xs = omega arith in
    let p = clean-blocks xs c.args.way l in
    grind arith

pub returns-else-way-ways_in : goal.returns-else-way-ways_in
returns-else-way-ways_in c =
    let xs = c.args.marks.now in
    let l : ways_in xs ≤ c.args.way = omega arith in
    sym (past-clean (marks_seen xs) (marks-sound xs) c.args.way l)
