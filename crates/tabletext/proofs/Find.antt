-- How the search for a name goes: whether the task of a number has it, and which is the first.
use Rattle.std.proofs.Common.{◌≡◌, ℕ, zero, suc, ◌+◌, ◌<◌, true, false, cond, Bool, List, [], ◌∷◌, length, Some, None, Ok, Err, Option, Result, sym, refl, ap, ◌∙◌, arith}
use Rattle.std.specs.Borrow.{Bor}
use Rattle.std.specs.Prelude.{MatchOption, MatchResult}
use Rattle.std.specs.Str.{bytes_eq}
use Rattle.sets.specs.Below.{NoneBelow, IsLowest}
use Rattle.taskset.specs.declared.fault.DraftFault.{DraftFault}
use Rattle.taskset.specs.declared.task.Task.{Task}
use Rattle.taskset.specs.Bytes.{bytes_of}
use Rattle.taskset.specs.Table.{task_at, name_in, name_of}
use Rattle.tabletext.specs.Laws.{is_named}
use Rattle.tabletext.specs.Lines.{find_from}

-- a task that was asked for its name
named-asked : (text : List ℕ) (ts : List Task) (i : ℕ) (n m : List ℕ) → Ok n ≡ name_of text (task_at ts i) → is_named text ts i m ≡ bytes_eq n m
named-asked text [] i n m e = absurd cc
named-asked text (t ∷ ts) zero n m e = let same : name_in text t.name ≡ n = cc in ap (λ x. bytes_eq x m) same
named-asked text (t ∷ ts) (suc i) n m e = named-asked text ts i n m e

-- and one that is not there
named-past : (text : List ℕ) (ts : List Task) (i : ℕ) (d : DraftFault) (m : List ℕ) → Err d ≡ name_of text (task_at ts i) → is_named text ts i m ≡ false
named-past text [] i d m e = refl
named-past text (t ∷ ts) zero d m e = absurd cc
named-past text (t ∷ ts) (suc i) d m e = named-past text ts i d m e

-- a test of a task's name, by the name or by the refusal that asking for it gives
pub named-by : (text : List ℕ) (ts : List Task) (i : ℕ) (m : List ℕ) (r : Result (Bor (List ℕ)) DraftFault) (b : Bool) (Q : Bor (List ℕ) → Type 0) →
    bytes_of r ≡ name_of text (task_at ts i) → MatchResult r Q (λ d. b ≡ false) → ((n : Bor (List ℕ)) → Q n → b ≡ bytes_eq n.now m) → b ≡ is_named text ts i m
named-by text ts i m (Ok n) b Q e h same = same n h ∙ sym (named-asked text ts i n.now m e)
named-by text ts i m (Err d) b Q e h same = h ∙ sym (named-past text ts i d m e)

found-none : (text : List ℕ) (j : ℕ) (ts : List Task) (m : List ℕ) → NoneBelow (length ts) (λ k. is_named text ts k m) → find_from text j ts m ≡ None
found-none text j [] m h = refl
found-none text j (t ∷ ts) m h = ap (λ b. cond b (Some j) (find_from text (j + 1) ts m)) (h 0 (omega arith)) ∙ found-none text (j + 1) ts m (λ k l. h (suc k) (omega arith))

found-some : (text : List ℕ) (j : ℕ) (ts : List Task) (m : List ℕ) (i : ℕ) → i < length ts → is_named text ts i m ≡ true → NoneBelow i (λ k. is_named text ts k m) → find_from text j ts m ≡ Some (j + i)
found-some text j [] m i l e h = absurd (omega arith)
found-some text j (t ∷ ts) m zero l e h = let here : j ≡ j + 0 = omega arith in ap (λ b. cond b (Some j) (find_from text (j + 1) ts m)) e ∙ ap Some here
found-some text j (t ∷ ts) m (suc i) l e h =
    let there : j + 1 + i ≡ j + suc i = omega arith in
    ap (λ b. cond b (Some j) (find_from text (j + 1) ts m)) (h 0 (omega arith)) ∙ found-some text (j + 1) ts m i (omega arith) e (λ k q. h (suc k) (omega arith)) ∙ ap Some there

-- the lowest number of a task with a name is what the search finds
pub found-lowest : (text : List ℕ) (ts : List Task) (m : List ℕ) (n : ℕ) (o : Option ℕ) → n ≡ length ts → MatchOption o (NoneBelow n (λ k. is_named text ts k m)) (IsLowest n (λ k. is_named text ts k m)) → o ≡ find_from text 0 ts m
found-lowest text ts m n None e h = sym (found-none text 0 ts m (λ k l. h k (omega arith)))
found-lowest text ts m n (Some i) e h = let at : i ≡ 0 + i = omega arith in ap Some at ∙ sym (found-some text 0 ts m i (omega (arith, h.below)) h.passes h.first)
