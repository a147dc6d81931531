-- What an implementation says of itself: what can be seen of its states, and what one call on it may leave and answer.
use Rattle.std.specs.Prelude.{ℕ}
use Rattle.sets.specs.Sets.{WaySet}
use Rattle.resource.specs.declared.answer.Progress.{Progress}
use Rattle.resource.specs.Seen.{Seen, RunOn, ScrubOn}

-- the meaning of an implementation whose states are S
pub record Meaning (S : Type 0) : Type 1 where
  pub seen : S → Seen
  -- the state before a run call, its task, its ways, its address, and a state that it may leave
  pub ran : S → ℕ → WaySet → ℕ → S → Type 0
  -- the state before a scrub call, its way, an answer that it may give, and the state that it may then leave
  pub scrubbed : S → ℕ → Progress → S → Type 0

-- one run call: as the implementation says, and within the sentences that bind every resource
pub record Ran {S : Type 0} (m : Meaning S) (s : S) (task : ℕ) (ways : WaySet) (address : ℕ) (t : S) : Type 0 where
  pub said : m.ran s task ways address t
  pub within : RunOn (m.seen s) task ways (m.seen t)

-- one scrub call, likewise
pub record Scrubbed {S : Type 0} (m : Meaning S) (s : S) (way : ℕ) (answer : Progress) (t : S) : Type 0 where
  pub said : m.scrubbed s way answer t
  pub within : ScrubOn (m.seen s) way answer (m.seen t)
