-- What a refusal is told by, at the end of a text.
use Rattle.std.specs.Prelude.{ℕ, List, ◌++◌, codes, decimal}
use Rattle.refusal.specs.Told.{Told}

-- the text, and then `no`, the number and the detail
abbrev pub with_no : List ℕ → Told → List ℕ
with_no out t = (((out ++ codes "no ") ++ decimal t.number) ++ codes " ") ++ decimal t.detail

-- the same, and then the word
abbrev pub with_refusal : List ℕ → Told → List ℕ
with_refusal out t = (with_no out t ++ codes " ") ++ t.word
