-- The lines of a text and the words of a line, each with its place.
use Rattle.std.specs.Prelude.{ℕ, ◌+◌, Bool, false, cond, List, [], ◌∷◌}
use Rattle.textparts.specs.declared.bytes.Class.TheVariants.{InLine, Space, InWord}
use Rattle.textparts.specs.Bytes.{has}

-- bytes, and the place of the first of them in the text
pub record Span : Type 0 where
  pub place : ℕ
  pub bytes : List ℕ

abbrev pub at : ℕ → List ℕ → Span
at p bs = record { place = p; bytes = bs }

-- the byte b at place p stands right before the first of some spans and belongs to it
abbrev pub longer : ℕ → ℕ → List Span → List Span
longer p b [] = at p (b ∷ []) ∷ []
longer p b (s ∷ ss) = at p (b ∷ s.bytes) ∷ ss

-- the lines of the bytes from place p on: each ends at a byte 10, the last perhaps without one
abbrev pub lines : ℕ → List ℕ → List Span
lines p [] = []
lines p (b ∷ bs) = cond (has InLine b) (longer p b (lines (p + 1) bs)) (at p [] ∷ lines (p + 1) bs)

-- the bytes begin with one that belongs to a word
abbrev pub begins : List ℕ → Bool
begins [] = false
begins (b ∷ bs) = has InWord b

-- the words of a line's bytes from place p on, separated by spaces
abbrev pub words : ℕ → List ℕ → List Span
words p [] = []
words p (b ∷ bs) = cond (has Space b) (words (p + 1) bs) (cond (begins bs) (longer p b (words (p + 1) bs)) (at p (b ∷ []) ∷ words (p + 1) bs))
