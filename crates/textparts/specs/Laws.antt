-- What a part handed out is, in terms of the text alone.
use Rattle.std.specs.Prelude.{◌≡◌, ℕ, ◌+◌, ◌-◌, ◌<◌, ◌≤◌, Bool, true, not, ◌||◌, List, length, take, drop, ◌==◌, nat_le, slice_index}
use Rattle.textparts.specs.Bytes.{each}
use Rattle.textparts.specs.Shapes.{is_number, worth}
use Rattle.textparts.specs.Spans.{Span}
use Rattle.textparts.specs.Tokens.{Token, word, number, remark}

-- byte 10 ends a line
abbrev pub ends : ℕ → Bool
ends b = b == 10

-- a word ends at a space, or with its line
abbrev pub gap : ℕ → Bool
gap b = b == 32 || b == 10

-- the text begins at place p, or the byte before p is a stop
abbrev pub opens : (ℕ → Bool) → List ℕ → ℕ → Bool
opens stop text p = p == 0 || stop (slice_index text (p - 1))

-- the text has ended at place p, or the byte there is a stop
abbrev pub closes : (ℕ → Bool) → List ℕ → ℕ → Bool
closes stop text p = nat_le (length text) p || stop (slice_index text p)

-- the span lies in the text, and has the text's bytes at its place
pub record Stands (text : List ℕ) (s : Span) : Type 0 where
  pub within : s.place + length s.bytes ≤ length text
  pub same : take (length s.bytes) (drop s.place text) ≡ s.bytes

-- bytes of the text with no stop among them that cannot be made longer on either side
pub record Longest (stop : ℕ → Bool) (text : List ℕ) (s : Span) : Type 0 where
  pub stands : Stands text s
  pub apart : each (λ b. not (stop b)) s.bytes ≡ true
  pub left : opens stop text s.place ≡ true
  pub right : closes stop text (s.place + length s.bytes) ≡ true

-- a line of the text
abbrev pub LineIn : List ℕ → Span → Type 0
LineIn text s = Longest ends text s

-- a word of the text: at least one byte
abbrev pub WordIn : List ℕ → Span → Type 0
WordIn text s = Longest gap text s × (0 < length s.bytes)

-- a remark of the text: from a `#` that nothing but a space or a line's beginning precedes to the end of its line
pub record RemarkIn (text : List ℕ) (s : Span) : Type 0 where
  pub stands : Stands text s
  pub hash : slice_index s.bytes 0 ≡ 35
  pub some : 0 < length s.bytes
  pub apart : each (λ b. not (ends b)) s.bytes ≡ true
  pub left : opens gap text s.place ≡ true
  pub right : closes ends text (s.place + length s.bytes) ≡ true

-- a piece of the text, whichever it is
abbrev pub PieceIn : List ℕ → Token → Type 0
PieceIn text (word s) = WordIn text s
PieceIn text (number s v) = WordIn text s × (is_number s.bytes ≡ true) × (v ≡ worth 0 s.bytes)
PieceIn text (remark s) = RemarkIn text s
