-- What a pair means as a resource, by what its two parts mean.
use Rattle.std.specs.Prelude.{◌≡◌, ℕ, ◌<◌, ◌≤◌, true, false, ◌&&◌, nat_lt}
use Rattle.sets.specs.Sets.{WaySet, has}
use Rattle.resource.specs.declared.answer.Progress.{Progress}
use Rattle.resource.specs.Answers.{is_done}
use Rattle.resource.specs.Seen.{Seen, clean}
use Rattle.resource.specs.Meaning.{Meaning, Ran, Scrubbed}
use Rattle.pair.specs.declared.Pair.{Pair}
use Rattle.pair.specs.Both.{both}

-- what is seen of a pair
abbrev pub pair_seen : {A B : Type 0} → Meaning A → Meaning B → Pair A B → Seen
pair_seen m n s = both (m.seen s.first) (n.seen s.second)

-- one run call: it goes to both parts, on those of its ways that both have
pub record PairRuns {A B : Type 0} (m : Meaning A) (n : Meaning B) (s : Pair A B) (task : ℕ) (ways : WaySet) (address : ℕ) (t : Pair A B) : Type 0 where
  pub shared : WaySet
  pub named : (w : ℕ) → has shared w ≡ (has ways w && nat_lt w (pair_seen m n s).ways)
  pub first : Ran m s.first task shared address t.first
  pub second : Ran n s.second task shared address t.second

-- one scrub call on the first part alone, and one on the second alone
pub record OnFirst {A B : Type 0} (m : Meaning A) (s : Pair A B) (way : ℕ) (t : Pair A B) : Type 0 where
  pub answer : Progress
  pub first : Scrubbed m s.first way answer t.first
  pub second : t.second ≡ s.second

pub record OnSecond {A B : Type 0} (n : Meaning B) (s : Pair A B) (way : ℕ) (t : Pair A B) : Type 0 where
  pub first : t.first ≡ s.first
  pub answer : Progress
  pub second : Scrubbed n s.second way answer t.second

-- neither part has changed
pub record Same {A B : Type 0} (s t : Pair A B) : Type 0 where
  pub first : t.first ≡ s.first
  pub second : t.second ≡ s.second

-- a scrub call's work: on the first part unless the way is clean there, otherwise on the second unless it is clean there;
-- nothing where it is clean in both, or where one of them has no such way
pub record Steps {A B : Type 0} (m : Meaning A) (n : Meaning B) (s : Pair A B) (way : ℕ) (t : Pair A B) : Type 0 where
  pub first : way < (pair_seen m n s).ways → clean (m.seen s.first) way ≡ false → OnFirst m s way t
  pub second : way < (pair_seen m n s).ways → clean (m.seen s.first) way ≡ true → clean (n.seen s.second) way ≡ false → OnSecond n s way t
  pub idle : clean (m.seen s.first) way ≡ true → clean (n.seen s.second) way ≡ true → Same s t
  pub past : (pair_seen m n s).ways ≤ way → Same s t

-- one scrub call: its work, and done where the way is then clean in both parts
pub record PairScrubs {A B : Type 0} (m : Meaning A) (n : Meaning B) (s : Pair A B) (way : ℕ) (answer : Progress) (t : Pair A B) : Type 0 where
  pub steps : Steps m n s way t
  pub done : is_done answer ≡ clean (pair_seen m n t) way

-- the pair as a resource
abbrev pub pair_meaning : {A B : Type 0} → Meaning A → Meaning B → Meaning (Pair A B)
pair_meaning m n = record { seen = pair_seen m n; ran = PairRuns m n; scrubbed = PairScrubs m n }
