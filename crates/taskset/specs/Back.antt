-- The places of a draft, from its table.
use Rattle.std.specs.Prelude.{◌≡◌, ℕ, ◌-◌, ◌++◌, List, length, take, drop, replicate}
use Rattle.std.proofs.Common.{ap, ap₂, ◌∙◌, sym, arith}
use Rattle.std.proofs.lemmas.List.{take-append-drop, length-take-le}
use Rattle.sets.specs.Sets.{TaskSet, nobody}
use Rattle.taskset.specs.declared.draft.Draft.TheInside.{Inside}
use Rattle.taskset.specs.declared.task.Task.{Task}
use Rattle.taskset.specs.Places.{IsTidy, no_task, table_in}
use Rattle.taskset.specs.Table.{Table}

-- a list of n entries, filled up to sixteen
abbrev pub filled : {X : Type 0} → X → List X → ℕ → List X
filled d xs n = xs ++ replicate (16 - n) d

-- the table's entries in their places, and all other places blank
abbrev pub places_of : Table → Inside
places_of t = record {
  count = length t.tasks;
  tasks = filled no_task t.tasks (length t.tasks);
  pairs = filled (nobody 16) t.pairs (length t.tasks);
}

filled-back : {X : Type 0} (d : X) (n : ℕ) (xs : List X) → drop n xs ≡ replicate (16 - n) d → filled d (take n xs) n ≡ xs
filled-back d n xs e = ap (λ ys. take n xs ++ ys) (sym e) ∙ take-append-drop n xs

-- no place is lost
pub places-back : (a : Inside) → IsTidy a → places_of (table_in a) ≡ a
places-back a h =
    let n : length (take a.count a.tasks) ≡ a.count = length-take-le a.count a.tasks (omega (arith, h.few, h.tasks)) in
    ap (λ (k : ℕ). let i : Inside = record { count = k; tasks = filled no_task (take a.count a.tasks) k; pairs = filled (nobody 16) (take a.count a.pairs) k } in i) n
    ∙ ap₂ (λ (x : List Task) (y : List TaskSet). let i : Inside = record { count = a.count; tasks = x; pairs = y } in i) (filled-back no_task a.count a.tasks h.blank) (filled-back (nobody 16) a.count a.pairs h.unused)
