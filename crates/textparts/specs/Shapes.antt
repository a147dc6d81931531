-- The shapes of words.
use Rattle.std.specs.Prelude.{ℕ, ◌+◌, ◌-◌, ◌*◌, Bool, not, ◌&&◌, List, [], ◌∷◌, length, ◌==◌, nat_le, nat_lt, slice_index}
use Rattle.textparts.specs.declared.bytes.Class.TheVariants.{Letter, Digit, NameByte}
use Rattle.textparts.specs.Bytes.{has, each}

-- 1 to 16 bytes: a small letter, then small letters, digits or hyphens
abbrev pub is_name : List ℕ → Bool
is_name bs = nat_lt 0 (length bs) && (nat_le (length bs) 16 && (has Letter (slice_index bs 0) && each (has NameByte) bs))

-- 1 to 7 digits, and no 0 in front of others
abbrev pub is_number : List ℕ → Bool
is_number bs = nat_lt 0 (length bs) && (nat_le (length bs) 7 && (not (slice_index bs 0 == 48 && nat_lt 1 (length bs)) && each (has Digit) bs))

-- what digits are worth in base ten, after digits worth a
abbrev pub worth : ℕ → List ℕ → ℕ
worth a [] = a
worth a (b ∷ bs) = worth (a * 10 + (b - 48)) bs
