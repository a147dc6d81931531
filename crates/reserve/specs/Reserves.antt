-- What a reserve means as a resource, by what the resource below means.
use Rattle.std.specs.Prelude.{◌≡◌, ℕ, ◌+◌, ◌-◌, ◌<◌, ◌≤◌, min, true, false, ◌&&◌, nat_lt}
use Rattle.sets.specs.Sets.{WaySet, has}
use Rattle.resource.specs.declared.answer.Progress.{Progress}
use Rattle.resource.specs.Answers.{is_done}
use Rattle.resource.specs.Seen.{Seen}
use Rattle.resource.specs.Meaning.{Meaning, Ran, Scrubbed}
use Rattle.reserve.specs.declared.Reserve.{Reserve}

-- what is seen from above the lowest k ways: way w is way w + k below
abbrev pub above : ℕ → Seen → Seen
above k x = record {
  ways = x.ways - k;
  cost = λ w. x.cost (w + k);
  traces = λ w. x.traces (w + k);
  left = λ w. x.left (w + k);
}

-- how many ways are hidden: the number that the reserve was made with, or 8 if that is larger
abbrev pub hidden_ways : {A : Type 0} → Reserve A → ℕ
hidden_ways s = min s.hidden 8

-- what is seen of a reserve
abbrev pub reserve_seen : {A : Type 0} → Meaning A → Reserve A → Seen
reserve_seen m s = above (hidden_ways s) (m.seen s.rest)

-- one run call: it goes below on the ways of the reserve that it names, each as way w + k, and on no other
pub record ReserveRuns {A : Type 0} (m : Meaning A) (s : Reserve A) (task : ℕ) (ways : WaySet) (address : ℕ) (t : Reserve A) : Type 0 where
  pub hidden : t.hidden ≡ s.hidden
  pub below : WaySet
  pub named : (w : ℕ) → has below (w + hidden_ways s) ≡ (has ways w && nat_lt w (reserve_seen m s).ways)
  pub spared : (w : ℕ) → w < hidden_ways s → has below w ≡ false
  pub rest : Ran m s.rest task below address t.rest

-- one scrub call: on a way of the reserve one scrub call on way w + k below, with its answer; past them done, and nothing has changed
pub record ReserveScrubs {A : Type 0} (m : Meaning A) (s : Reserve A) (way : ℕ) (answer : Progress) (t : Reserve A) : Type 0 where
  pub hidden : t.hidden ≡ s.hidden
  pub rest : way < (reserve_seen m s).ways → Scrubbed m s.rest (way + hidden_ways s) answer t.rest
  pub past : (reserve_seen m s).ways ≤ way → (is_done answer ≡ true) × (t.rest ≡ s.rest)

-- the reserve as a resource
abbrev pub reserve_meaning : {A : Type 0} → Meaning A → Meaning (Reserve A)
reserve_meaning m = record { seen = reserve_seen m; ran = ReserveRuns m; scrubbed = ReserveScrubs m }
