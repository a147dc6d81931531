-- The search for a name, and whether a task has it.
use Rattle.std.proofs.Common.{◌≡◌, ℕ, zero, suc, ◌+◌, ◌<◌, true, false, cond, ◌||◌, eqb, ◌⊎◌, List, [], ◌∷◌, ◌++◌, length, Some, None, Option, sym, refl, ap, ◌∙◌, inl, inr, ⊎_elim, arith}
use Rattle.std.specs.Str.{bytes_eq}
use Rattle.std.proofs.lemmas.Slice.Eq.{bytes_eq-Decides}
use Rattle.std.proofs.lemmas.Bool.Decides.{eqb_tells}
use Rattle.taskset.specs.declared.task.Task.{Task}
use Rattle.taskset.specs.Table.{name_in}
use Rattle.tabletext.specs.Faulty.{named}
use Rattle.tabletext.specs.Laws.{is_named}
use Rattle.tabletext.specs.Lines.{find_from}
use Rattle.sets.proofs.Below.{bool_tells}
use Rattle.tabletext.proofs.Answer.{both, true-false}

pub same_bytes : (a b : List ℕ) → bytes_eq a b ≡ true → a ≡ b
same_bytes a b e = (bytes_eq-Decides a b).0 e

-- what the search says
abbrev pub Found : List ℕ → ℕ → List Task → List ℕ → Option ℕ → Type 0
Found text j ts n None = named text ts n ≡ false
Found text j ts n (Some a) = (named text ts n ≡ true) × ((k : ℕ) × (a ≡ j + k) × (k < length ts) × (is_named text ts k n ≡ true))

abbrev further : Option ℕ → ℕ
further None = 0
further (Some a) = a

pub find-tells : (text : List ℕ) (j : ℕ) (ts : List Task) (n : List ℕ) → Found text j ts n (find_from text j ts n)
find-tells text j [] n = refl
find-tells text j (t ∷ ts) n =
    let rest = find-tells text (j + 1) ts n in
    (elim (bytes_eq (name_in text t.name) n) as (λ b. bytes_eq (name_in text t.name) n ≡ b → Found text j (t ∷ ts) n (cond b (Some j) (find_from text (j + 1) ts n))) [
      | true ↦ λ e. (ap (λ b. b || named text ts n) e, (0, omega arith, omega arith, e))
      | false ↦ λ e. onward e (find_from text (j + 1) ts n) rest
    ]) refl
  where
    onward : bytes_eq (name_in text t.name) n ≡ false → (o : Option ℕ) → Found text (j + 1) ts n o → Found text j (t ∷ ts) n o
    onward e None r = ap (λ b. b || named text ts n) e ∙ r
    onward e (Some a) r = (ap (λ b. b || named text ts n) e ∙ r.0, (suc r.1.0, omega (arith, r.1.1), omega (arith, r.1.2), r.1.3))

-- a task that has a name is one of those that have it
pub named-from : (text : List ℕ) (ts : List Task) (k : ℕ) (n : List ℕ) → is_named text ts k n ≡ true → named text ts n ≡ true
named-from text [] k n e = true-false (sym e)
named-from text (t ∷ ts) zero n e = ap (λ b. b || named text ts n) e
named-from text (t ∷ ts) (suc k) n e = let r = named-from text ts k n e in ⊎_elim (λ q. ap (λ b. b || named text ts n) q) (λ q. ap (λ b. b || named text ts n) q ∙ r) (bool_tells (bytes_eq (name_in text t.name) n))

-- tasks further on change nothing for those before
pub named-before : (text : List ℕ) (ts us : List Task) (k : ℕ) (n : List ℕ) → is_named text ts k n ≡ true → is_named text (ts ++ us) k n ≡ true
named-before text [] us k n e = true-false (sym e)
named-before text (t ∷ ts) us zero n e = e
named-before text (t ∷ ts) us (suc k) n e = named-before text ts us k n e

-- a task has one name
pub one_name : (text : List ℕ) (ts : List Task) (k : ℕ) (n m : List ℕ) → is_named text ts k n ≡ true → is_named text ts k m ≡ true → n ≡ m
one_name text [] k n m e f = true-false (sym e)
one_name text (t ∷ ts) zero n m e f = sym (same_bytes (name_in text t.name) n e) ∙ same_bytes (name_in text t.name) m f
one_name text (t ∷ ts) (suc k) n m e f = one_name text ts k n m e f

-- and is there
pub named-listed : (text : List ℕ) (ts : List Task) (k : ℕ) (n : List ℕ) → is_named text ts k n ≡ true → k < length ts
named-listed text [] k n e = true-false (sym e)
named-listed text (t ∷ ts) zero n e = omega arith
named-listed text (t ∷ ts) (suc k) n e = let l = named-listed text ts k n e in omega arith

-- no two tasks have one name
abbrev pub Apart : List ℕ → List Task → Type 0
Apart text ts = (k i : ℕ) (n : List ℕ) → is_named text ts k n ≡ true → is_named text ts i n ≡ true → k ≡ i

-- one task more: an earlier one, or the new one
named-push : (text : List ℕ) (ts : List Task) (x : Task) (k : ℕ) (n : List ℕ) → is_named text (ts ++ x ∷ []) k n ≡ true → (is_named text ts k n ≡ true) ⊎ ((k ≡ length ts) × (name_in text x.name ≡ n))
named-push text [] x zero n e = inr (refl, same_bytes _ n e)
named-push text [] x (suc k) n e = true-false (sym e)
named-push text (t ∷ ts) x zero n e = inl e
named-push text (t ∷ ts) x (suc k) n e = ⊎_elim (λ h. inl h) (λ h. inr (ap suc h.0, h.1)) (named-push text ts x k n e)

pub apart-push : (text : List ℕ) (ts : List Task) (x : Task) → Apart text ts → named text ts (name_in text x.name) ≡ false → Apart text (ts ++ x ∷ [])
apart-push text ts x a f k i n p q =
    let new : (j : ℕ) → is_named text ts j n ≡ true → name_in text x.name ≡ n → ⊥ = λ j h e. both (named text ts (name_in text x.name)) (ap (named text ts) e ∙ named-from text ts j n h) f in
    ⊎_elim
    (λ h. ⊎_elim (λ g. a k i n h g) (λ g. absurd (new k h g.1)) (named-push text ts x i n q))
    (λ h. ⊎_elim (λ g. absurd (new i g h.1)) (λ g. h.0 ∙ sym g.0) (named-push text ts x i n q))
    (named-push text ts x k n p)

-- where names are apart, the number found is the only one
pub only_one : (text : List ℕ) (ts : List Task) (n : List ℕ) (a k : ℕ) → Apart text ts → is_named text ts a n ≡ true → eqb k a ≡ is_named text ts k n
only_one text ts n a k h e =
    ⊎_elim
    (λ p. p.0 ∙ sym (ap (λ j. is_named text ts j n) p.1 ∙ e))
    (λ p. p.0 ∙ sym (⊎_elim (λ q. absurd (p.1 (h k a n q e))) (λ q. q) (bool_tells (is_named text ts k n))))
    (eqb_tells k a)
