-- Bytes that are looked at one by one are a word.
use Rattle.std.proofs.Common.{◌≡◌, ℕ, ◌+◌, List, [], ◌∷◌, length, get_or, drop, ap₂, ◌∙◌, arith}
use Rattle.std.proofs.lemmas.List.{drop_more, drop_all}

-- from place i on the bytes are those of a word
abbrev pub Spells : List ℕ → ℕ → List ℕ → Type 0
Spells xs i [] = Unit {0}
Spells xs i (b ∷ bs) = (get_or xs i 0 ≡ b) × Spells xs (i + 1) bs

pub spelt : (xs : List ℕ) (i : ℕ) (bs : List ℕ) → Spells xs i bs → length xs ≡ i + length bs → drop i xs ≡ bs
spelt xs i [] h l = drop_all i xs (omega arith)
spelt xs i (b ∷ bs) h l = drop_more xs i 0 (omega arith) ∙ ap₂ (λ y ys. y ∷ ys) h.0 (spelt xs (i + 1) bs h.1 (omega arith))
