-- What reading a text means, in plain words.
use Rattle.std.specs.Prelude.{◌≡◌, ℕ, zero, suc, ◌+◌, ◌<◌, ◌≤◌, Bool, true, false, ◌&&◌, ◌||◌, List, [], ◌∷◌, ◌++◌, map, length, Ok, Err, Result}
use Rattle.std.specs.List.{flat_map, AllByRecursion}
use Rattle.std.specs.Str.{bytes_eq}
use Rattle.taskset.specs.declared.task.Task.{Task}
use Rattle.taskset.specs.Table as T
use Rattle.taskset.specs.Table.{Table, nothing, name_in}
use Rattle.textparts.specs.Shapes.{is_name}
use Rattle.textparts.specs.Spans.{Span, lines}
use Rattle.tabletext.specs.declared.fault.FaultAt.{FaultAt}
use Rattle.tabletext.specs.declared.fault.LineFault.{LineFault}
use Rattle.tabletext.specs.declared.fault.TextFault.{TextFault}
use Rattle.tabletext.specs.declared.fault.TextFault.TheVariants.{LongText, Line}
use Rattle.tabletext.specs.Faulty.{bytes, task_said, form_of, FirstOf, NoneOf, said}
use Rattle.tabletext.specs.Forms.{Form, skipped, task, noleak}

-- the table that lines say one after the other, from a table on
abbrev pub all_said : List ℕ → Table → List Span → Table
all_said text t [] = t
all_said text t (l ∷ ls) = all_said text (said text t l) ls

-- no fault applies to any of the lines, each taken with the table that those before it say
abbrev pub Faultless : List ℕ → Table → List Span → Type 0
Faultless text t [] = Unit {0}
Faultless text t (l ∷ ls) = NoneOf text t l (form_of l) × Faultless text (said text t l) ls

-- the fault reported is the first: the lines before its line are faultless, and of the faults that apply to its line none has a smaller number, or the same number and a place further left
pub record FirstFault (text : List ℕ) (at : FaultAt) : Type 0 where
  pub before : List Span
  pub line : Span
  pub after : List Span
  pub order : lines 0 text ≡ before ++ line ∷ after
  pub earlier : Faultless text nothing before
  pub place : at.place ≡ line.place
  pub first : FirstOf text (all_said text nothing before) line (form_of line) at.fault

-- the task of a task line, and the bytes of its NAME
abbrev pub task_in : Result Form LineFault → List Task
task_in (Ok skipped) = []
task_in (Ok (task w)) = task_said w ∷ []
task_in (Ok (noleak w)) = []
task_in (Err e) = []

abbrev pub name_of_line : Result Form LineFault → List (List ℕ)
name_of_line (Ok skipped) = []
name_of_line (Ok (task w)) = bytes w.name ∷ []
name_of_line (Ok (noleak w)) = []
name_of_line (Err e) = []

-- task k has this name
abbrev pub is_named : List ℕ → List Task → ℕ → List ℕ → Bool
is_named text [] k n = false
is_named text (t ∷ ts) zero n = bytes_eq (name_in text t.name) n
is_named text (t ∷ ts) (suc k) n = is_named text ts k n

-- a noleak line from the name of task k to the name of task i
abbrev pub says_pair : List ℕ → List Task → ℕ → ℕ → Result Form LineFault → Bool
says_pair text ts k i (Ok skipped) = false
says_pair text ts k i (Ok (task w)) = false
says_pair text ts k i (Ok (noleak w)) = is_named text ts k (bytes w.from) && is_named text ts i (bytes w.to)
says_pair text ts k i (Err e) = false

-- some line passes the test
abbrev pub some_line : (Span → Bool) → List Span → Bool
some_line p [] = false
some_line p (l ∷ ls) = p l || some_line p ls

-- a task's name lies in the text and has the shape of a name
pub record WellNamed (text : List ℕ) (t : Task) : Type 0 where
  pub within : t.name.place + t.name.len ≤ length text
  pub some : 1 ≤ t.name.len
  pub few : t.name.len ≤ 16
  pub length : length (name_in text t.name) ≡ t.name.len
  pub shape : is_name (name_in text t.name) ≡ true

-- a text was read into the table u
pub record ReadWell (text : List ℕ) (u : Table) : Type 0 where
  pub short : length text ≤ 8192
  pub faultless : Faultless text nothing (lines 0 text)
  -- a task for each task line, in their order, with its figures and name
  pub tasks : u.tasks ≡ flat_map (λ l. task_in (form_of l)) (lines 0 text)
  -- asked for their names, the tasks give back the bytes of the NAME words
  pub names : map (λ t. name_in text t.name) u.tasks ≡ flat_map (λ l. name_of_line (form_of l)) (lines 0 text)
  pub named : AllByRecursion (WellNamed text) u.tasks
  -- no two tasks have one name
  pub apart : (k i : ℕ) (n : List ℕ) → is_named text u.tasks k n ≡ true → is_named text u.tasks i n ≡ true → k ≡ i
  -- a pair exactly where some noleak line says so by their names
  pub pairs : (k i : ℕ) → T.noleak u k i ≡ some_line (λ l. says_pair text u.tasks k i (form_of l)) (lines 0 text)

-- what holds of a text, of the answer to reading it and of the table that this leaves
abbrev pub ReadLaws : List ℕ → Result (Unit {0}) TextFault → Table → Type 0
ReadLaws text (Ok x) u = ReadWell text u
ReadLaws text (Err LongText) u = (8192 < length text) × (u ≡ nothing)
ReadLaws text (Err (Line at)) u = (length text ≤ 8192) × FirstFault text at × (u ≡ nothing)
