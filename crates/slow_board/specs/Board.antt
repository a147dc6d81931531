-- What the board means as a resource.
use Rattle.std.specs.Prelude.{◌≡◌, ℕ, ◌+◌, cond, ◌&&◌, ◌==◌, nat_lt, slice_index_or}
use Rattle.sets.specs.Sets.{WaySet}
use Rattle.resource.specs.declared.answer.Progress.{Progress}
use Rattle.resource.specs.Answers.{is_done}
use Rattle.resource.specs.Seen.{Seen, touched}
use Rattle.resource.specs.Meaning.{Meaning}
use Rattle.slow_board.specs.declared.slot.Slot.{Slot}
use Rattle.slow_board.specs.declared.board.SlowBoard.{SlowBoard}
use Rattle.slow_board.specs.Slots.{fresh, entered, owned_by, calls, lessened}

-- way w; past the last there is only a clean one
abbrev pub slot_at : SlowBoard → ℕ → Slot
slot_at s w = cond (nat_lt w 8) (slice_index_or s.slots w (fresh 0)) (fresh 0)

-- eight ways; each holds a trace of its owner
abbrev pub board_seen : SlowBoard → Seen
board_seen s = record {
  ways = 8;
  cost = λ w. cond (nat_lt w 8) ((slot_at s w).extra + 1) 0;
  traces = λ w k. nat_lt k 16 && owned_by (slot_at s w).owner k;
  left = λ w. calls (slot_at s w) + 1;
}

-- one run call: its task owns the ways that it bears on; all others stand as they were
abbrev pub Enters : SlowBoard → ℕ → WaySet → ℕ → SlowBoard → Type 0
Enters s task ways address t = (w : ℕ) → slot_at t w ≡ cond (touched (board_seen s) task ways w) (entered (slot_at s w) task) (slot_at s w)

-- one scrub call: it is done where no call was to follow it; all other ways stand as they were
pub record Lessens (s : SlowBoard) (way : ℕ) (answer : Progress) (t : SlowBoard) : Type 0 where
  pub done : is_done answer ≡ (calls (slot_at s way) == 0)
  pub slots : (w : ℕ) → slot_at t w ≡ cond (nat_lt w 8 && w == way) (lessened (slot_at s w)) (slot_at s w)

-- the board as a resource
abbrev pub board_meaning : Meaning SlowBoard
board_meaning = record { seen = board_seen; ran = Enters; scrubbed = Lessens }
