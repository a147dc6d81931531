-- What reading a line makes of a table, fault after fault in their order.
use Rattle.std.specs.Prelude.{ℕ, ◌+◌, cond, List, [], ◌∷◌, length, Some, None, Ok, Err, Option, Result, ◌==◌}
use Rattle.std.specs.Option.{ok_or}
use Rattle.std.specs.List.{prefix_len}
use Rattle.std.specs.Str.{bytes_eq}
use Rattle.taskset.specs.declared.fault.DraftFault.{DraftFault}
use Rattle.taskset.specs.declared.task.Task.{Task}
use Rattle.taskset.specs.Table.{Table, added, paired, name_in}
use Rattle.textparts.specs.declared.bytes.Class.TheVariants.{Printable}
use Rattle.textparts.specs.Bytes.{has}
use Rattle.textparts.specs.Spans.{Span}
use Rattle.textparts.specs.Tokens.{Token, pieces}
use Rattle.tabletext.specs.declared.fault.LineFault.{LineFault}
use Rattle.tabletext.specs.declared.fault.LineFault.TheVariants.{StrayByte, TwiceNamed, Unnamed, Draft}
use Rattle.tabletext.specs.Forms.{TaskWords, PairWords, Form, skipped, task, noleak, form, next}
use Rattle.tabletext.specs.Words.{name_word, number_word, ways_word, kind_word}

-- what stands after a call that answers r: the table t, or the fault
abbrev pub outcome : {A E T : Type 0} → Result A E → T → Result T E
outcome (Ok a) t = Ok t
outcome (Err e) t = Err e

-- the draft's fault, carried whole
abbrev pub carried : {A : Type 0} → Result A DraftFault → Result A LineFault
carried (Ok a) = Ok a
carried (Err e) = Err (Draft e)

-- the number of the first task with a name, where the tasks are numbered from i on
abbrev pub find_from : List ℕ → ℕ → List Task → List ℕ → Option ℕ
find_from text i [] n = None
find_from text i (t ∷ ts) n = cond (bytes_eq (name_in text t.name) n) (Some i) (find_from text (i + 1) ts n)

-- no byte but 32 to 126
abbrev pub unstray : Span → Result (Unit {0}) LineFault
unstray l = cond (prefix_len (has Printable) l.bytes == length l.bytes) (Ok tt) (Err (StrayByte (l.place + prefix_len (has Printable) l.bytes)))

-- a new task's name is not taken
abbrev pub free : Option ℕ → ℕ → Result (Unit {0}) LineFault
free None p = Ok tt
free (Some i) p = Err (TwiceNamed p)

abbrev pub fresh : List ℕ → Table → Span → Result (Unit {0}) LineFault
fresh text t n = free (find_from text 0 t.tasks n.bytes) n.place

-- a name is an earlier task's
abbrev pub known : List ℕ → Table → Span → Result ℕ LineFault
known text t n = ok_or (find_from text 0 t.tasks n.bytes) (Unnamed n.place)

abbrev pub task_line : List ℕ → Table → TaskWords → Result Table LineFault
task_line text t w =
    next (name_word w.name) (λ n.
    next (number_word w.period) (λ p.
    next (number_word w.budget) (λ b.
    next (number_word w.deadline) (λ d.
    next (ways_word w.ways) (λ s.
    next (kind_word w.kind) (λ k.
    next (fresh text t n) (λ _.
    carried (added t (record {
      figures = record { period = p; budget = b; deadline = d; ways = s; kind = k };
      name = record { place = n.place; len = length n.bytes };
    })))))))))

abbrev pub pair_line : List ℕ → Table → PairWords → Result Table LineFault
pair_line text t w =
    next (name_word w.from) (λ a.
    next (name_word w.to) (λ b.
    next (known text t a) (λ k.
    next (known text t b) (λ i.
    carried (paired t k i)))))

-- a line of some form
abbrev pub form_read : List ℕ → Table → Form → Result Table LineFault
form_read text t skipped = Ok t
form_read text t (task w) = task_line text t w
form_read text t (noleak w) = pair_line text t w

-- a line of which these pieces are left: stray bytes first, also where it is skipped
abbrev pub rest_read : List ℕ → Table → Span → List Token → Result Table LineFault
rest_read text t l ts = next (unstray l) (λ _. next (form ts) (form_read text t))

-- a whole line
abbrev pub line_read : List ℕ → Table → Span → Result Table LineFault
line_read text t l = rest_read text t l (pieces l.place l.bytes)
