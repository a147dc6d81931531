-- The calls that the code holds, as those of the definitions.
use Rattle.std.specs.Prelude.{Some, None, Option}
use Rattle.textparts.specs.Spans.{Span}
use Rattle.textparts.specs.Tokens.{Token}
use Rattle.textparts.specs.View.{span_of, token_of}
use Rattle.textparts.specs.declared.part.Part.{Part}
use Rattle.textparts.specs.declared.part.Piece.{Piece}
use Rattle.daycalls.specs.declared.call.Call.{Call}
use Rattle.daycalls.specs.declared.call.Call.TheVariants.{Skipped, Announce, Finish, Ticks, Odd}
use Rattle.daycalls.specs.Calls as C

-- where a part stands, and its bytes
abbrev pub spanned : Option Part → Option Span
spanned None = None
spanned (Some p) = Some (span_of p)

-- a piece as that of the definitions
abbrev pub piece_of : Option Piece → Option Token
piece_of None = None
piece_of (Some p) = Some (token_of p)

abbrev pub call_of : Call → C.Call
call_of Skipped = C.skipped
call_of (Announce p) = C.announce (span_of p)
call_of (Finish p) = C.finish (span_of p)
call_of (Ticks n) = C.ticks n
call_of Odd = C.odd

-- what was made out of a line; it is odd where nothing was
abbrev pub made_of : Option Call → C.Call
made_of None = C.odd
made_of (Some c) = call_of c
