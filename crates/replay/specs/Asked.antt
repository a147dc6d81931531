-- The calls that the lines of a day ask for, the newest first.
use Rattle.std.specs.Prelude.{ℕ, zero, suc, List, [], ◌∷◌}
use Rattle.textparts.specs.Spans.{Span}
use Rattle.textparts.specs.Tokens.{pieces}
use Rattle.daycalls.specs.Calls.{Call, skipped, announce, finish, ticks, odd, call_in}

-- an announcement or a finish by a name, one tick, or a line that is no call, by its place
pub data Ask : Type 0 where
  announces : List ℕ → Ask
  finishes : List ℕ → Ask
  one_tick : Ask
  no_call : ℕ → Ask

-- one more
abbrev pub also : Ask → List Ask → List Ask
also a asks = a ∷ asks

-- n ticks more
abbrev pub ticking : ℕ → List Ask → List Ask
ticking zero asks = asks
ticking (suc n) asks = also one_tick (ticking n asks)

-- what a line at a place asks for besides
abbrev pub asked : ℕ → Call → List Ask → List Ask
asked p skipped asks = asks
asked p (announce s) asks = also (announces s.bytes) asks
asked p (finish s) asks = also (finishes s.bytes) asks
asked p (ticks n) asks = ticking n asks
asked p odd asks = also (no_call p) asks

-- and what these lines do, in their order
abbrev pub asked_by : List Span → List Ask → List Ask
asked_by [] asks = asks
asked_by (l ∷ ls) asks = asked_by ls (asked l.place (call_in (pieces l.place l.bytes)) asks)
