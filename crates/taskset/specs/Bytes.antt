-- What a call hands out of a text.
use Rattle.std.specs.Prelude.{ℕ, List, Ok, Err, Result}
use Rattle.std.specs.Borrow.{Bor}

-- the bytes that a call hands out
abbrev pub bytes_of : {E : Type 0} → Result (Bor (List ℕ)) E → Result (List ℕ) E
bytes_of (Ok x) = Ok x.now
bytes_of (Err e) = Err e
