use Rattle.std.proofs.Common.{◌≡◌, ℕ, ◌<◌, ◌≤◌, cond}
use Rattle.resource.specs.Seen.{touched}
use Rattle.slow_board.specs.Slots.{entered}
use Rattle.slow_board.specs.Board.{slot_at, board_seen}
use Rattle.slow_board.proofs.board.SlowBoardResource.run.Given as goal

-- the ways below the loop's are as the call leaves them, the others as they were
abbrev pub invariant-loop-way : goal.invariant-loop-way
invariant-loop-way l =
    ((w : ℕ) → w < l.way → slot_at l.self w ≡ cond (touched (board_seen l.initial.self) l.task l.ways w) (entered (slot_at l.initial.self w) l.task) (slot_at l.initial.self w))
    × ((w : ℕ) → l.way ≤ w → slot_at l.self w ≡ slot_at l.initial.self w)
