-- What stands in a buffer after bytes were written into it, and the lines of a report.
use Rattle.std.specs.Prelude.{ℕ, List, [], ◌∷◌, ◌++◌, length, codes, decimal}
use Rattle.std.proofs.Math.Seq.{paste}
use Rattle.refusal.specs.Told.{Told}

-- the buffer d with the bytes bs written from place at on
unfoldable pub put : List ℕ → ℕ → List ℕ → List ℕ
put d at bs = paste d at bs (length bs)

-- three words, each apart by a space, and the end of the line
unfoldable pub line : List ℕ → List ℕ → List ℕ → List ℕ
line word first second = ((((word ++ (32 ∷ [])) ++ first) ++ (32 ∷ [])) ++ second) ++ (10 ∷ [])

-- a word and two numbers, each apart by a space, and the end of the line
abbrev pub row : List ℕ → ℕ → ℕ → List ℕ
row word first second = line word (decimal first) (decimal second)

-- the line that a refusal makes: `no`, its number and its detail
abbrev pub refusal_line : Told → List ℕ
refusal_line t = row (codes "no") t.number t.detail
