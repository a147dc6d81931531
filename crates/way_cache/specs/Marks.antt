-- What marks show: one mark for each line, 32 lines for each way, in two blocks of 16.
use Rattle.std.specs.Prelude.{◌≡◌, ℕ, ◌+◌, ◌*◌, ◌/◌, min, Bool, cond, ◌&&◌, List, length, ◌==◌, nat_le, nat_lt, slice_index}
use Rattle.sets.specs.Below.{some_below}
use Rattle.resource.specs.Seen.{Seen}

-- one of the n marks from here on is an owner: a task, 0 to 15
abbrev pub owner_in : List ℕ → ℕ → ℕ → Bool
owner_in marks from n = some_below n (λ i. nat_lt (slice_index marks (from + i)) 16)

-- task k is among the n marks from here on
abbrev pub mark_in : List ℕ → ℕ → ℕ → ℕ → Bool
mark_in marks from n k = some_below n (λ i. slice_index marks (from + i) == k)

-- each 32 marks are a way, up to eight
abbrev pub ways_in : List ℕ → ℕ
ways_in marks = min (length marks / 32) 8

-- the first and the second block of the way have an owner
abbrev pub first_owned : List ℕ → ℕ → Bool
first_owned marks way = owner_in marks (32 * way) 16

abbrev pub second_owned : List ℕ → ℕ → Bool
second_owned marks way = owner_in marks (32 * way + 16) 16

-- a way costs 2, holds the traces of its owners, and needs a call for each block with an owner, though at least one
abbrev pub marks_seen : List ℕ → Seen
marks_seen marks = record {
  ways = ways_in marks;
  cost = λ w. cond (nat_lt w (ways_in marks)) 2 0;
  traces = λ w k. (nat_lt w (ways_in marks) && nat_lt k 16) && mark_in marks (32 * w) 32 k;
  left = λ w. cond (nat_lt w (ways_in marks) && (first_owned marks w && second_owned marks w)) 2 1;
}

-- the n marks from here on are 255, and all others stand as they were
pub record Wiped (old : List ℕ) (from n : ℕ) (new : List ℕ) : Type 0 where
  pub long : length new ≡ length old
  pub marks : (i : ℕ) → slice_index new i ≡ cond (nat_le from i && nat_lt i (from + n)) 255 (slice_index old i)
