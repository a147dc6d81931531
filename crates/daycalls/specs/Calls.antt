-- What the pieces of a line ask for.
use Rattle.std.specs.Prelude.{ℕ, Bool, true, false, cond, ◌&&◌, List, [], ◌∷◌, Some, None, codes, Option}
use Rattle.std.specs.Str.{bytes_eq}
use Rattle.textparts.specs.Shapes.{is_name}
use Rattle.textparts.specs.Spans.{Span}
use Rattle.textparts.specs.Tokens.{Token, word, number, remark}

-- nothing, an announcement or a finish by a task's name, so many ticks, or no call at all
pub data Call : Type 0 where
  skipped : Call
  announce : Span → Call
  finish : Span → Call
  ticks : ℕ → Call
  odd : Call

-- there is no piece
abbrev pub is_end : List Token → Bool
is_end [] = true
is_end (t ∷ ts) = false

-- the one piece that there is
abbrev pub only : List Token → Option Token
only [] = None
only (t ∷ ts) = cond (is_end ts) (Some t) None

-- the pieces are one name
abbrev pub last_name : List Token → Option Span
last_name [] = None
last_name (word s ∷ ts) = cond (is_end ts && is_name s.bytes) (Some s) None
last_name (number s v ∷ ts) = None
last_name (remark s ∷ ts) = None

-- the pieces are one number, or there is none and it is one tick
abbrev pub tick_count : List Token → Option ℕ
tick_count [] = Some 1
tick_count (word s ∷ ts) = None
tick_count (number s v ∷ ts) = cond (is_end ts) (Some v) None
tick_count (remark s ∷ ts) = None

-- the call with what was found for it; odd where nothing was
abbrev pub or_odd : {A : Type 0} → (A → Call) → Option A → Call
or_odd call None = odd
or_odd call (Some a) = call a

-- the call of a line's first word and the pieces after it: `announce NAME`, `finish NAME`, `tick` or `tick N`
abbrev pub worded : List ℕ → List Token → Call
worded bs ts =
    cond (bytes_eq bs (codes "announce")) (or_odd announce (last_name ts))
    (cond (bytes_eq bs (codes "finish")) (or_odd finish (last_name ts))
    (cond (bytes_eq bs (codes "tick")) (or_odd ticks (tick_count ts)) odd))

-- the call of a line's pieces
abbrev pub call_in : List Token → Call
call_in [] = skipped
call_in (remark s ∷ ts) = skipped
call_in (number s v ∷ ts) = odd
call_in (word s ∷ ts) = worded s.bytes ts
