-- What a refusal tells.
use Rattle.std.specs.Prelude.{ℕ, List}

-- a number for programs, a detail, and the bytes of a word for people
pub record Told : Type 0 where
  pub number : ℕ
  pub detail : ℕ
  pub word : List ℕ
