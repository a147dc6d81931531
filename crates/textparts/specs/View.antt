-- What a part and a piece hold, and what a reader and a line have still to hand out.
use Rattle.std.specs.Prelude.{ℕ, ◌-◌, cond, List, map, take, drop, ◌==◌}
use Rattle.textparts.specs.declared.part.Part.{Part}
use Rattle.textparts.specs.declared.part.Piece.{Piece}
use Rattle.textparts.specs.declared.part.Piece.TheVariants.{Word, Number, Remark}
use Rattle.textparts.specs.declared.reader.Line.{Line}
use Rattle.textparts.specs.declared.reader.Reader.{Reader}
use Rattle.textparts.specs.Spans.{Span, at, lines, words}
use Rattle.textparts.specs.Tokens.{Token, word, number, remark, told, pieces}

abbrev pub span_of : Part → Span
span_of p = at p.place p.bytes.now

abbrev pub token_of : Piece → Token
token_of (Word p) = word (span_of p)
token_of (Number p v) = number (span_of p) v
token_of (Remark p) = remark (span_of p)

-- the text that is read
abbrev pub text_of : Reader → List ℕ
text_of r = r.text.now

-- the lines still to come
abbrev pub to_come : Reader → List Span
to_come r = lines r.next (drop r.next r.text.now)

-- the text that a line was cut from
abbrev pub whole_text : Line → List ℕ
whole_text l = l.text.now

-- a line, whatever is left of it
abbrev pub line_of : Line → Span
line_of l = at l.start (take (l.end - l.start) (drop l.start l.text.now))

-- the bytes of a line still to come
abbrev pub unread : Line → List ℕ
unread l = take (l.end - l.at) (drop l.at l.text.now)

-- the pieces of a line still to come; only the first of a line can be a remark
abbrev pub left : Line → List Token
left l = cond (l.at == l.start) (pieces l.at (unread l)) (map told (words l.at (unread l)))
