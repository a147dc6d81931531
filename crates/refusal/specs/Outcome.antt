-- A call that changes a thing or refuses, by what it makes of the thing.
use Rattle.std.specs.Prelude.{Ok, Err, Result}

-- what stands after the call: the changed thing, or where it refused the thing as it was
abbrev pub after : {S E : Type 0} → S → Result S E → S
after s (Ok t) = t
after s (Err e) = s

-- what the call answers: a where it did not refuse, otherwise the refusal
abbrev pub answered : {S A E : Type 0} → A → Result S E → Result A E
answered a (Ok t) = Ok a
answered a (Err e) = Err e
