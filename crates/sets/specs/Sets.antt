-- Who is in a set of numbers, and its two uses: sets of ways and sets of tasks.
use Rattle.std.specs.Prelude.{ℕ, ◌%◌, ◌^◌, Bool, cond, min, not, ◌&&◌, bit_or, nat_lt}
use Rattle.sets.specs.Below.{some_below}
use Rattle.sets.specs.Member.{member}
use Rattle.sets.specs.declared.number_set.NumberSet.{NumberSet}

-- ways 0 to 7
abbrev pub WaySet : Type 0
WaySet = NumberSet 8

-- tasks 0 to 15
abbrev pub TaskSet : Type 0
TaskSet = NumberSet 16

-- k can be in a set of numbers below n
abbrev pub in_range : ℕ → ℕ → Bool
in_range n k = nat_lt k n && nat_lt k 16

-- k is in the set
unfoldable pub has : {n : ℕ} → NumberSet n → ℕ → Bool
has {n} s k = in_range n k && member s.bits k

-- the set without a member
unfoldable pub nobody : (n : ℕ) → NumberSet n
nobody n = record { bits = 0 }

-- the set with one number more; none that is out of range comes in
unfoldable pub with_member : {n : ℕ} → NumberSet n → ℕ → NumberSet n
with_member {n} s k = cond (in_range n k) (record { bits = bit_or s.bits (2 ^ k) }) s

-- the set of its members below k
unfoldable pub members_below : {n : ℕ} → NumberSet n → ℕ → NumberSet n
members_below s k = record { bits = s.bits % 2 ^ min k 16 }

-- nobody is in the set
unfoldable pub is_memberless : {n : ℕ} → NumberSet n → Bool
is_memberless {n} s = not (some_below n (has s))
