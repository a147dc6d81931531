-- What the worked floors come to.
use Rattle.std.specs.Prelude.{◌≡◌, ℕ, ◌-◌, Ok, Err}
use Rattle.analysis.specs.declared.fault.AnalysisFault.TheVariants.{NoBound}
use Rattle.analysis.specs.Bounds.{InTime}
use Rattle.analysis.specs.Floor.{Floor}
use Rattle.analysis.specs.Verdict.{Verdict}
use Rattle.worked.specs.Run.{WorkedRun}
use Rattle.worked.specs.Tables.{line, alone, on_cache}

-- task i of the floor has the bound b, within its deadline, and the slack s
pub record Comes (f : Floor) (i b s : ℕ) : Type 0 where
  pub bound : InTime f i b
  pub slack : f.deadline i - b ≡ s

-- pick, seal and send on one way: 7, 12 and 59 of 10, 20 and 60; send has none to spare at 59, and no bound at 58
pub record SharedWay : Type 0 where
  pub pick : Comes (on_cache (line 0 0 0 60)) 0 7 3
  pub seal : Comes (on_cache (line 0 0 0 60)) 1 12 8
  pub send : Comes (on_cache (line 0 0 0 60)) 2 59 1
  pub taken : Verdict (on_cache (line 0 0 0 60)) 8 3 (Ok tt)
  pub tight : Comes (on_cache (line 0 0 0 59)) 2 59 0
  pub still : Verdict (on_cache (line 0 0 0 59)) 8 3 (Ok tt)
  pub late : Verdict (on_cache (line 0 0 0 58)) 8 3 (Err (NoBound 2))

-- the same tasks on three ways: nothing is ever scrubbed
pub record OwnWays : Type 0 where
  pub pick : Comes (on_cache (line 0 1 2 60)) 0 3 7
  pub seal : Comes (on_cache (line 0 1 2 60)) 1 6 14
  pub send : Comes (on_cache (line 0 1 2 60)) 2 9 51
  pub taken : Verdict (on_cache (line 0 1 2 60)) 8 3 (Ok tt)

-- one whole task: its bound is its budget
pub record Alone : Type 0 where
  pub just : Comes (on_cache (alone 5)) 0 5 0
  pub taken : Verdict (on_cache (alone 5)) 8 1 (Ok tt)
  pub long : Verdict (on_cache (alone 6)) 8 1 (Err (NoBound 0))

-- all of them, and a run
pub record WorkedFloors : Type 0 where
  pub shared : SharedWay
  pub own : OwnWays
  pub alone : Alone
  pub run : WorkedRun
