-- Scrubbing a way until it is done.
use Rattle.std.specs.Prelude.{◌≡◌, ℕ, suc, ◌<◌, ◌≤◌, min, false, ◌≢◌}
use Rattle.resource.specs.declared.answer.Progress.TheVariants.{Done, UnderWay}
use Rattle.resource.specs.Seen.{Seen, Sound, Fixed, Kept}
use Rattle.resource.specs.Meaning.{Meaning, Scrubbed}

-- n scrub calls on the way in a row and no other call: the last is answered done, and each before it under way
pub data UntilDone {S : Type 0} (m : Meaning S) (way : ℕ) : S → ℕ → S → Type 0 where
  last : {s t : S} → Scrubbed m s way Done t → UntilDone m way s 1 t
  more : {s u t : S} {n : ℕ} → Scrubbed m s way UnderWay u → UntilDone m way u n t → UntilDone m way s (suc n) t

-- the law: the calls are at most as many as the way might have needed, so at most as many as it costs;
-- the way is left without traces, and every other way as it was
pub record Emptied (x : Seen) (way calls : ℕ) (y : Seen) : Type 0 where
  pub before : Sound x
  pub after : Sound y
  pub fixed : Fixed x y
  pub some : 1 ≤ calls
  pub needed : calls ≤ x.left way
  pub paid : way < x.ways → calls ≤ x.cost way
  pub bare : (k : ℕ) → y.traces way k ≡ false
  pub other : (w : ℕ) → w ≢ way → Kept x y w

-- the calls made and what they come to; the answer is their number, as far as 32 bits hold it
pub record ScrubbedDone {S : Type 0} (m : Meaning S) (s : S) (way answer : ℕ) (t : S) : Type 0 where
  pub calls : ℕ
  pub made : UntilDone m way s calls t
  pub law : Emptied (m.seen s) way calls (m.seen t)
  pub count : answer ≡ min calls 4294967295

-- the ways 0 to n − 1 in rising order, each scrubbed until done before the next, and no other call
pub data EachDone {S : Type 0} (m : Meaning S) (s : S) : ℕ → S → Type 0 where
  none : EachDone m s 0 s
  next : {u t : S} {n calls : ℕ} → EachDone m s n u → UntilDone m n u calls t → EachDone m s (suc n) t

-- the law: no way at all holds a trace
pub record Cleared (x y : Seen) : Type 0 where
  pub before : Sound x
  pub after : Sound y
  pub fixed : Fixed x y
  pub bare : (w k : ℕ) → y.traces w k ≡ false

-- every way scrubbed until done, and what that comes to
pub record EveryWayDone {S : Type 0} (m : Meaning S) (s t : S) : Type 0 where
  pub made : EachDone m s (m.seen s).ways t
  pub law : Cleared (m.seen s) (m.seen t)
