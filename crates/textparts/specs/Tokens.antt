-- The pieces of a line: words, numbers and remarks.
use Rattle.std.specs.Prelude.{ℕ, ◌+◌, Bool, cond, ◌&&◌, List, [], ◌∷◌, map, length, ◌==◌, nat_lt, slice_index}
use Rattle.textparts.specs.declared.bytes.Class.TheVariants.{Space}
use Rattle.textparts.specs.Bytes.{has}
use Rattle.textparts.specs.Shapes.{is_number, worth}
use Rattle.textparts.specs.Spans.{Span, at, words}

-- a piece of a line: a word, a number with its value, or a remark
pub data Token : Type 0 where
  word : Span → Token
  number : Span → ℕ → Token
  remark : Span → Token

-- where a piece stands, and its bytes
abbrev pub span : Token → Span
span (word s) = s
span (number s v) = s
span (remark s) = s

-- a word that has the shape of a number is one
abbrev pub told : Span → Token
told s = cond (is_number s.bytes) (number s (worth 0 s.bytes)) (word s)

-- the pieces of a line's bytes from place p on: if the first word begins with `#`, the line from there to its end is one remark
abbrev pub pieces : ℕ → List ℕ → List Token
pieces p [] = []
pieces p (b ∷ bs) = cond (has Space b) (pieces (p + 1) bs) (cond (b == 35) (remark (at p (b ∷ bs)) ∷ []) (map told (words p (b ∷ bs))))

-- the bytes begin with `#`
abbrev pub hashed : List ℕ → Bool
hashed bs = nat_lt 0 (length bs) && slice_index bs 0 == 35
