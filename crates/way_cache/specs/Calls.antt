-- What one call leaves of the marks.
use Rattle.std.specs.Prelude.{◌≡◌, ℕ, ◌/◌, ◌%◌, cond, not, ◌&&◌, List, length, ◌==◌, nat_lt, slice_index}
use Rattle.sets.specs.Sets.{WaySet}
use Rattle.resource.specs.declared.answer.Progress.{Progress}
use Rattle.resource.specs.Answers.{is_done}
use Rattle.resource.specs.Seen.{touched}
use Rattle.way_cache.specs.Marks.{ways_in, first_owned, second_owned, marks_seen}

-- mark i after a run call: the task at line (address mod 32) of each way that the call bears on
abbrev pub written : List ℕ → ℕ → WaySet → ℕ → ℕ → ℕ
written old task ways address i = cond (touched (marks_seen old) task ways (i / 32) && i % 32 == address % 32) task (slice_index old i)

-- one run call
pub record Writes (old : List ℕ) (task : ℕ) (ways : WaySet) (address : ℕ) (new : List ℕ) : Type 0 where
  pub long : length new ≡ length old
  pub marks : (i : ℕ) → slice_index new i ≡ written old task ways address i

-- the first of the way's two blocks that has an owner, or 2 where none has
abbrev pub dirty_block : List ℕ → ℕ → ℕ
dirty_block marks way = cond (first_owned marks way) 0 (cond (second_owned marks way) 1 2)

-- mark i after a scrub call: 255 over the whole of that block
abbrev pub scrubbed_mark : List ℕ → ℕ → ℕ → ℕ
scrubbed_mark old way i = cond (nat_lt way (ways_in old) && (i / 32 == way && i % 32 / 16 == dirty_block old way)) 255 (slice_index old i)

-- one scrub call: it is under way where both blocks had an owner, and otherwise done
pub record Scrubs (old : List ℕ) (way : ℕ) (answer : Progress) (new : List ℕ) : Type 0 where
  pub long : length new ≡ length old
  pub done : is_done answer ≡ not (nat_lt way (ways_in old) && (first_owned old way && second_owned old way))
  pub marks : (i : ℕ) → slice_index new i ≡ scrubbed_mark old way i
