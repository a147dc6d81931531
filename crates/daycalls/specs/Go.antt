-- The line that starts a day.
use Rattle.std.specs.Prelude.{ℕ, cond, List, [], ◌∷◌, Some, None, codes, Option}
use Rattle.std.specs.Str.{bytes_eq}
use Rattle.textparts.specs.Spans.{Span}
use Rattle.textparts.specs.Tokens.{Token, word, number, remark, pieces}
use Rattle.daycalls.specs.declared.go.Go.{Go}
use Rattle.daycalls.specs.declared.go.Pile.{Pile}
use Rattle.daycalls.specs.declared.go.Pile.TheVariants.{Cache, Banks, Both, Reserved}
use Rattle.daycalls.specs.Calls.{is_end}

-- the resource of a name
abbrev pub pile_named : List ℕ → Option Pile
pile_named bs =
    cond (bytes_eq bs (codes "cache")) (Some Cache)
    (cond (bytes_eq bs (codes "banks")) (Some Banks)
    (cond (bytes_eq bs (codes "both")) (Some Both)
    (cond (bytes_eq bs (codes "reserved")) (Some Reserved) None)))

-- the pieces are one name of a resource
abbrev pub last_pile : List Token → Option Pile
last_pile [] = None
last_pile (word s ∷ ts) = cond (is_end ts) (pile_named s.bytes) None
last_pile (number s v ∷ ts) = None
last_pile (remark s ∷ ts) = None

-- the first word is `go`: then the resource that the rest names, if it names one
abbrev pub go_line : List Token → Option (Option Pile)
go_line [] = None
go_line (word s ∷ ts) = cond (bytes_eq s.bytes (codes "go")) (Some (last_pile ts)) None
go_line (number s v ∷ ts) = None
go_line (remark s ∷ ts) = None

-- a line at place p that starts a day, or else what a later line does
abbrev pub go_or : ℕ → Option (Option Pile) → Option Go → Option Go
go_or p None later = later
go_or p (Some pile) later = Some (record { place = p; pile = pile })

-- the first line that starts a day
abbrev pub go_found : List Span → Option Go
go_found [] = None
go_found (l ∷ ls) = go_or l.place (go_line (pieces l.place l.bytes)) (go_found ls)

-- the lines after this one if it starts a day, or else these
abbrev pub past_go : List Span → Option (Option Pile) → List Span → List Span
past_go ls None later = later
past_go ls (Some pile) later = ls

-- the lines after the first that starts a day
abbrev pub after_go : List Span → List Span
after_go [] = []
after_go (l ∷ ls) = past_go ls (go_line (pieces l.place l.bytes)) (after_go ls)
