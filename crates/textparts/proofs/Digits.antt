-- How large digits can get.
use Rattle.std.proofs.Common.{ℕ, ◌^◌, ◌≤◌, arith}
use native.Mathlib.Nat.{pow-le-pow_right}

-- seven digits stay below ten millions
pub seven : (i : ℕ) → i ≤ 7 → 10 ^ i ≤ 10000000
seven i h = pow-le-pow_right {n = 10} (omega arith) {i = i} {j = 7} h
