-- A linear congruential generator of 64 bits.
use Rattle.std.specs.Prelude.{ℕ, ◌+◌, ◌*◌, ◌/◌, ◌%◌, ◌^◌}

-- the state after one draw, by a product and a sum that wrap
abbrev pub advanced : ℕ → ℕ
advanced s = (s * 6364136223846793005 % 2 ^ 64 + 1442695040888963407) % 2 ^ 64

-- the number that a state shows: its upper 31 bits, since the lower ones repeat early
abbrev pub shown : ℕ → ℕ
shown s = s / 2 ^ 33
