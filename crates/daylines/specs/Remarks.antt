-- The remarks at a day's end, each at the end of what was told before it.
use Rattle.std.specs.Prelude.{ℕ, ◌-◌, cond, List, ◌++◌, codes, decimal, ◌==◌, nat_lt, slice_index_or}
use Rattle.daylines.specs.declared.book.Book.{Book}

-- a label, and a count after it
abbrev pub with_counted : List ℕ → List ℕ → ℕ → List ℕ
with_counted out label n = (out ++ label) ++ decimal n

-- a remark of one count of batches
abbrev pub with_batches : List ℕ → List ℕ → ℕ → List ℕ
with_batches out label n = with_counted (out ++ codes "# batches ") label n ++ codes "\n"

-- the batches taken
abbrev pub with_taken : List ℕ → Book → List ℕ
with_taken out b = with_counted (out ++ codes "# batches ") (codes "taken: ") b.taken ++ codes "\n"

-- those refused, by their refusals
abbrev pub with_refused : List ℕ → Book → List ℕ
with_refused out b =
    let early = with_counted (out ++ codes "# batches ") (codes "refused: ") b.early in
    with_counted (early ++ codes " too early") (codes ", ") b.unlisted ++ codes " unlisted\n"

-- those ended with their budget, and those finished by call
abbrev pub with_ends : List ℕ → Book → List ℕ
with_ends out b =
    let spent = with_counted (out ++ codes "# batches ") (codes "ended: ") b.spent in
    with_counted (spent ++ codes " by budget") (codes ", ") b.called ++ codes " by call\n"

-- the batches taken that have not ended
abbrev pub unended : Book → ℕ
unended b = b.taken - b.spent - b.called

-- how many they are
abbrev pub with_unended : List ℕ → Book → List ℕ
with_unended out b =
    with_counted (out ++ codes "# batches ") (codes "unended: ") (unended b) ++ codes "\n"

-- the finishes refused, by their refusals
abbrev pub with_finishes : List ℕ → Book → List ℕ
with_finishes out b =
    let idle = with_counted (out ++ codes "# finishes") (codes " refused: ") b.idle in
    with_counted (idle ++ codes " not") (codes " running, ") b.strange ++ codes " unlisted\n"

-- the ticks spent scrubbing, and the allowances
abbrev pub with_scrubs : List ℕ → Book → List ℕ
with_scrubs out b =
    let ticks = with_counted (out ++ codes "# scrub ") (codes "ticks: ") b.scrubs in
    with_counted (ticks ++ codes ",") (codes " allowed: ") b.allowed ++ codes "\n"

-- the most ticks that a batch of task i has taken to its end; 0 where none has, and past sixteen
abbrev pub worst_at : Book → ℕ → ℕ
worst_at b i =
    cond (nat_lt i 16) (slice_index_or b.watches i (record { since = 0; worst = 0 })).worst 0

-- a worst response
abbrev pub with_worst : List ℕ → ℕ → List ℕ
with_worst out ticks = with_counted (out ++ codes ": worst") (codes " response ") ticks

-- the same, where 0 says that no batch has ended
abbrev pub with_worst_or : List ℕ → ℕ → List ℕ
with_worst_or out ticks = cond (ticks == 0) (out ++ codes ": no end") (with_worst out ticks)

-- a task's worst response, and its bound
abbrev pub with_response : List ℕ → List ℕ → ℕ → ℕ → List ℕ
with_response out name ticks bound =
    let worst = with_worst_or ((out ++ codes "# ") ++ name) ticks in
    with_counted worst (codes ", bound ") bound ++ codes "\n"
