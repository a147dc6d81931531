-- What each word of a line has to be.
use Rattle.std.specs.Prelude.{ℕ, ◌+◌, ◌-◌, Bool, true, cond, ◌&&◌, ◌||◌, List, [], ◌∷◌, length, Ok, Err, codes, Result, nat_le, nat_lt}
use Rattle.std.specs.Str.{bytes_eq}
use Rattle.sets.specs.Sets.{nobody, with_member, WaySet}
use Rattle.taskset.specs.declared.task.Kind.{Kind}
use Rattle.taskset.specs.declared.task.Kind.TheVariants.{Split, Whole}
use Rattle.textparts.specs.Shapes.{is_name}
use Rattle.textparts.specs.Spans.{Span}
use Rattle.textparts.specs.Tokens.{Token, word, number, remark, span}
use Rattle.tabletext.specs.declared.fault.LineFault.{LineFault}
use Rattle.tabletext.specs.declared.fault.LineFault.TheVariants.{OddWord}

-- digits from the byte `least` to `7`, each larger than the one before
abbrev pub rising : ℕ → List ℕ → Bool
rising least [] = true
rising least (b ∷ bs) = (nat_le least b && nat_le b 55) && rising (b + 1) bs

-- ways: one digit or more, rising, out of 0 to 7
abbrev pub is_ways : List ℕ → Bool
is_ways bs = nat_lt 0 (length bs) && rising 48 bs

-- the ways whose digits these are, besides a set of ways
abbrev pub ways_onto : WaySet → List ℕ → WaySet
ways_onto s [] = s
ways_onto s (b ∷ bs) = ways_onto (with_member s (b - 48)) bs

abbrev pub ways_of : List ℕ → WaySet
ways_of bs = ways_onto (nobody 8) bs

-- a kind: `split` or `whole`
abbrev pub is_kind : List ℕ → Bool
is_kind bs = bytes_eq bs (codes "split") || bytes_eq bs (codes "whole")

abbrev pub kind_of : List ℕ → Kind
kind_of bs = cond (bytes_eq bs (codes "split")) Split Whole

-- what a piece is read as where a name, a number, ways or a kind has to stand, or that it is an odd word
abbrev pub name_word : Token → Result Span LineFault
name_word (word s) = cond (is_name s.bytes) (Ok s) (Err (OddWord s.place))
name_word (number s v) = Err (OddWord s.place)
name_word (remark s) = Err (OddWord s.place)

abbrev pub number_word : Token → Result ℕ LineFault
number_word (word s) = Err (OddWord s.place)
number_word (number s v) = Ok v
number_word (remark s) = Err (OddWord s.place)

abbrev pub ways_word : Token → Result WaySet LineFault
ways_word t = cond (is_ways (span t).bytes) (Ok (ways_of (span t).bytes)) (Err (OddWord (span t).place))

abbrev pub kind_word : Token → Result Kind LineFault
kind_word t = cond (is_kind (span t).bytes) (Ok (kind_of (span t).bytes)) (Err (OddWord (span t).place))
