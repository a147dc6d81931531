-- The forms of a line.
use Rattle.std.specs.Prelude.{ℕ, cond, List, [], ◌∷◌, Ok, Err, codes, Result}
use Rattle.std.specs.Str.{bytes_eq}
use Rattle.textparts.specs.Tokens.{Token, word, number, remark}
use Rattle.tabletext.specs.declared.fault.LineFault.{LineFault}
use Rattle.tabletext.specs.declared.fault.LineFault.TheVariants.{OddLine}

-- the words after `task`
pub record TaskWords : Type 0 where
  pub name : Token
  pub period : Token
  pub budget : Token
  pub deadline : Token
  pub ways : Token
  pub kind : Token

-- the words after `noleak`
pub record PairWords : Type 0 where
  pub from : Token
  pub to : Token

-- a line that is skipped, a task line, or a noleak line
pub data Form : Type 0 where
  skipped : Form
  task : TaskWords → Form
  noleak : PairWords → Form

-- exactly six words follow `task`
abbrev pub task_words : List Token → Result TaskWords LineFault
task_words [] = Err OddLine
task_words (a ∷ []) = Err OddLine
task_words (a ∷ b ∷ []) = Err OddLine
task_words (a ∷ b ∷ c ∷ []) = Err OddLine
task_words (a ∷ b ∷ c ∷ d ∷ []) = Err OddLine
task_words (a ∷ b ∷ c ∷ d ∷ e ∷ []) = Err OddLine
task_words (a ∷ b ∷ c ∷ d ∷ e ∷ f ∷ []) = Ok (record { name = a; period = b; budget = c; deadline = d; ways = e; kind = f })
task_words (a ∷ b ∷ c ∷ d ∷ e ∷ f ∷ g ∷ ws) = Err OddLine

-- exactly two words follow `noleak`
abbrev pub pair_words : List Token → Result PairWords LineFault
pair_words [] = Err OddLine
pair_words (a ∷ []) = Err OddLine
pair_words (a ∷ b ∷ []) = Ok (record { from = a; to = b })
pair_words (a ∷ b ∷ c ∷ ws) = Err OddLine

-- go on where the answer is Ok
abbrev pub next : {A B E : Type 0} → Result A E → (A → Result B E) → Result B E
next (Ok a) k = k a
next (Err e) k = Err e

-- no word follows
abbrev pub ended : List Token → Result (Unit {0}) LineFault
ended [] = Ok tt
ended (t ∷ ts) = Err OddLine

-- the form of a line by the bytes of its first word, and the pieces after it
abbrev pub worded : List ℕ → List Token → Result Form LineFault
worded bs ts = cond (bytes_eq bs (codes "task")) (next (task_words ts) (λ w. Ok (task w))) (cond (bytes_eq bs (codes "noleak")) (next (pair_words ts) (λ w. Ok (noleak w))) (Err OddLine))

-- the form of a line's pieces: no piece at all or a remark is skipped, and any but a task line and a noleak line is odd
abbrev pub form : List Token → Result Form LineFault
form [] = Ok skipped
form (remark s ∷ ts) = Ok skipped
form (number s v ∷ ts) = Err OddLine
form (word s ∷ ts) = worded s.bytes ts
