-- The classes of bytes that a text is cut by.
use Rattle.std.specs.Prelude.{ℕ, Bool, true, not, ◌&&◌, ◌||◌, List, [], ◌∷◌, ◌==◌, nat_le}
use Rattle.textparts.specs.declared.bytes.Class.{Class}
use Rattle.textparts.specs.declared.bytes.Class.TheVariants.{InLine, Space, InWord, Printable, Letter, Digit, NameByte}

-- the byte is of the class
abbrev pub has : Class → ℕ → Bool
has InLine b = not (b == 10)
has Space b = b == 32
has InWord b = not (b == 32)
has Printable b = nat_le 32 b && nat_le b 126
has Letter b = nat_le 97 b && nat_le b 122
has Digit b = nat_le 48 b && nat_le b 57
has NameByte b = (nat_le 97 b && nat_le b 122) || ((nat_le 48 b && nat_le b 57) || b == 45)

-- the test holds of each of the bytes
abbrev pub each : (ℕ → Bool) → List ℕ → Bool
each p [] = true
each p (b ∷ bs) = p b && each p bs
