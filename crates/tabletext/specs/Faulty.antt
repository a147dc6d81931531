-- When each refusal applies to a line, in words of its own, and which of those that apply comes first.
use Rattle.std.specs.Prelude.{◌≡◌, ℕ, ◌+◌, ◌<◌, ◌≤◌, Bool, true, false, ◌||◌, ◌⊎◌, List, [], ◌∷◌, length, Ok, Err, Result, slice_index}
use Rattle.std.specs.Option.{unwrap_or}
use Rattle.std.specs.Str.{bytes_eq}
use Rattle.refusal.specs.Told.{Told}
use Rattle.taskset.specs.declared.fault.DraftFault.TheVariants.{FullTable, WildFigure, Itself, Unlisted}
use Rattle.taskset.specs.declared.task.Figures.{Figures}
use Rattle.taskset.specs.declared.task.Task.{Task}
use Rattle.taskset.specs.Figures.{lawful}
use Rattle.taskset.specs.Table.{Table, count, with_task, with_pair, name_in}
use Rattle.textparts.specs.declared.bytes.Class.TheVariants.{Printable}
use Rattle.textparts.specs.Bytes.{has}
use Rattle.textparts.specs.Shapes.{is_name, is_number, worth}
use Rattle.textparts.specs.Spans.{Span}
use Rattle.textparts.specs.Tokens.{Token, span, pieces}
use Rattle.tabletext.specs.declared.fault.LineFault.{LineFault}
use Rattle.tabletext.specs.declared.fault.LineFault.TheVariants.{StrayByte, OddLine, OddWord, TwiceNamed, Unnamed, Draft}
use Rattle.tabletext.specs.Faults.{line_told}
use Rattle.tabletext.specs.Forms.{TaskWords, Form, skipped, task, noleak, form}
use Rattle.tabletext.specs.Lines.{find_from}
use Rattle.tabletext.specs.Words.{is_ways, ways_of, is_kind, kind_of}

-- the bytes of a piece, and its place
abbrev pub bytes : Token → List ℕ
bytes w = (span w).bytes

abbrev pub place : Token → ℕ
place w = (span w).place

-- a word's place, and whether it has the shape that it has to have
pub record Check : Type 0 where
  pub at : ℕ
  pub right : Bool

abbrev pub check : (List ℕ → Bool) → Token → Check
check shape w = record { at = place w; right = shape (bytes w) }

-- the words of a line that have to have a shape, from left to right
abbrev pub checks : Form → List Check
checks skipped = []
checks (task w) = check is_name w.name ∷ check is_number w.period ∷ check is_number w.budget ∷ check is_number w.deadline ∷ check is_ways w.ways ∷ check is_kind w.kind ∷ []
checks (noleak w) = check is_name w.from ∷ check is_name w.to ∷ []

-- one of these words, at place p, has the wrong shape
abbrev pub WrongAt : List Check → ℕ → Type 0
WrongAt [] p = ⊥
WrongAt (c ∷ cs) p = ((c.at ≡ p) × (c.right ≡ false)) ⊎ WrongAt cs p

-- one of the tasks has this name
abbrev pub named : List ℕ → List Task → List ℕ → Bool
named text [] n = false
named text (t ∷ ts) n = bytes_eq (name_in text t.name) n || named text ts n

-- the task that the words of a task line say
abbrev pub figures_said : TaskWords → Figures
figures_said w = record { period = worth 0 (bytes w.period); budget = worth 0 (bytes w.budget); deadline = worth 0 (bytes w.deadline); ways = ways_of (bytes w.ways); kind = kind_of (bytes w.kind) }

abbrev pub task_said : TaskWords → Task
task_said w = record { figures = figures_said w; name = record { place = place w.name; len = length (bytes w.name) } }

-- 2 applies at p: a byte of the line stands there that is not one of 32 to 126
abbrev pub StrayAt : Span → ℕ → Type 0
StrayAt l p = (i : ℕ) × (p ≡ l.place + i) × (i < length l.bytes) × (has Printable (slice_index l.bytes i) ≡ false)

-- 3 applies: the line is not skipped, and is neither `task` and six words nor `noleak` and two
abbrev pub Odd : Result Form LineFault → Type 0
Odd (Ok f) = ⊥
Odd (Err e) = Unit {0}

-- 4 applies at p: a word there has the wrong shape
abbrev pub WordAt : Result Form LineFault → ℕ → Type 0
WordAt (Ok f) p = WrongAt (checks f) p
WordAt (Err e) p = ⊥

-- 5 applies at p: the NAME of a task line, which stands there, is an earlier task's
abbrev pub TwiceAt : List ℕ → Table → Result Form LineFault → ℕ → Type 0
TwiceAt text t (Ok skipped) p = ⊥
TwiceAt text t (Ok (task w)) p = (p ≡ place w.name) × (named text t.tasks (bytes w.name) ≡ true)
TwiceAt text t (Ok (noleak w)) p = ⊥
TwiceAt text t (Err e) p = ⊥

-- 6 applies at p: the FROM or the TO of a noleak line stands there and is no earlier task's name
abbrev pub UnnamedAt : List ℕ → Table → Result Form LineFault → ℕ → Type 0
UnnamedAt text t (Ok skipped) p = ⊥
UnnamedAt text t (Ok (task w)) p = ⊥
UnnamedAt text t (Ok (noleak w)) p = ((p ≡ place w.from) × (named text t.tasks (bytes w.from) ≡ false)) ⊎ ((p ≡ place w.to) × (named text t.tasks (bytes w.to) ≡ false))
UnnamedAt text t (Err e) p = ⊥

-- 7 applies: a task line after sixteen tasks
abbrev pub Full : Table → Result Form LineFault → Type 0
Full t (Ok skipped) = ⊥
Full t (Ok (task w)) = 16 ≤ count t
Full t (Ok (noleak w)) = ⊥
Full t (Err e) = ⊥

-- 8 applies: a figure of a task line is out of its range
abbrev pub Wild : Result Form LineFault → Type 0
Wild (Ok skipped) = ⊥
Wild (Ok (task w)) = lawful (figures_said w) ≡ false
Wild (Ok (noleak w)) = ⊥
Wild (Err e) = ⊥

-- 9 applies: FROM and TO of a noleak line are the same name
abbrev pub Same : Result Form LineFault → Type 0
Same (Ok skipped) = ⊥
Same (Ok (task w)) = ⊥
Same (Ok (noleak w)) = bytes w.from ≡ bytes w.to
Same (Err e) = ⊥

-- the fault applies to the line l of this form, when the lines before it have made the table t
abbrev pub AppliesTo : List ℕ → Table → Span → Result Form LineFault → LineFault → Type 0
AppliesTo text t l f (StrayByte p) = StrayAt l p
AppliesTo text t l f OddLine = Odd f
AppliesTo text t l f (OddWord p) = WordAt f p
AppliesTo text t l f (TwiceNamed p) = TwiceAt text t f p
AppliesTo text t l f (Unnamed p) = UnnamedAt text t f p
AppliesTo text t l f (Draft FullTable) = Full t f
AppliesTo text t l f (Draft WildFigure) = Wild f
AppliesTo text t l f (Draft Itself) = Same f
AppliesTo text t l f (Draft Unlisted) = ⊥

abbrev pub form_of : Span → Result Form LineFault
form_of l = form (pieces l.place l.bytes)

abbrev pub Applies : List ℕ → Table → Span → LineFault → Type 0
Applies text t l f = AppliesTo text t l (form_of l) f

-- a smaller number, or the same number and no place further right
abbrev pub Before : Told → Told → Type 0
Before a b = (a.number < b.number) ⊎ ((a.number ≡ b.number) × (a.detail ≤ b.detail))

-- the fault applies, and comes before every other that does
pub record FirstOf (text : List ℕ) (t : Table) (l : Span) (form : Result Form LineFault) (f : LineFault) : Type 0 where
  pub applies : AppliesTo text t l form f
  pub first : (g : LineFault) → AppliesTo text t l form g → Before (line_told l.place f) (line_told l.place g)

-- no fault applies
abbrev pub NoneOf : List ℕ → Table → Span → Result Form LineFault → Type 0
NoneOf text t l form = (g : LineFault) → AppliesTo text t l form g → ⊥

-- the number of the task with a name
abbrev pub number_of : List ℕ → Table → List ℕ → ℕ
number_of text t n = unwrap_or (find_from text 0 t.tasks n) 0

-- the table with what a line says: one task more, one pair more, or as it was
abbrev pub said_by : List ℕ → Table → Result Form LineFault → Table
said_by text t (Ok skipped) = t
said_by text t (Ok (task w)) = with_task t (task_said w)
said_by text t (Ok (noleak w)) = with_pair t (number_of text t (bytes w.from)) (number_of text t (bytes w.to))
said_by text t (Err e) = t

abbrev pub said : List ℕ → Table → Span → Table
said text t l = said_by text t (form_of l)
