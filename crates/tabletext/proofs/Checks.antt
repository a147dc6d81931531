-- The shapes of a line's words, checked from left to right.
use Rattle.std.proofs.Common.{◌≡◌, ℕ, ◌<◌, ◌≤◌, true, false, cond, List, [], ◌∷◌, length, Ok, Err, Result, sym, refl, inl, inr, ⊎_elim, arith}
use Rattle.std.specs.List.{AllByRecursion}
use Rattle.sets.specs.Sets.{WaySet}
use Rattle.taskset.specs.declared.task.Kind.{Kind}
use Rattle.taskset.specs.Table.{Table, added, paired}
use Rattle.textparts.specs.Shapes.{is_name, is_number, worth}
use Rattle.textparts.specs.Spans.{Span}
use Rattle.textparts.specs.Tokens.{Token, span}
use Rattle.tabletext.specs.declared.fault.LineFault.{LineFault}
use Rattle.tabletext.specs.declared.fault.LineFault.TheVariants.{OddWord}
use Rattle.tabletext.specs.Faulty.{bytes, place, Check, check, checks, WrongAt, task_said}
use Rattle.tabletext.specs.Forms.{TaskWords, PairWords, task, noleak, next}
use Rattle.tabletext.specs.Lines.{carried, fresh, known, task_line, pair_line}
use Rattle.tabletext.specs.Words.{name_word, number_word, ways_word, kind_word, is_ways, ways_of, is_kind, kind_of}
use Rattle.tabletext.proofs.Answer.{test-step, both, err-ok, ok-err, err-same}
use Rattle.tabletext.proofs.Pieces.{Fine, six_of, two_of}

-- the first word of the wrong shape
abbrev pub first_wrong : List Check → Result (Unit {0}) LineFault
first_wrong [] = Ok tt
first_wrong (c ∷ cs) = cond c.right (first_wrong cs) (Err (OddWord c.at))

-- each place is past those before it
abbrev pub Rise : List Check → Type 0
Rise [] = Unit {0}
Rise (c ∷ cs) = AllByRecursion (λ d. c.at < d.at) cs × Rise cs

-- all are right
pub none-wrong : (cs : List Check) → first_wrong cs ≡ Ok tt → (p : ℕ) → WrongAt cs p → ⊥
none-wrong [] e p w = w
none-wrong (c ∷ cs) e p w =
    (elim c.right as (λ b. c.right ≡ b → cond b (first_wrong cs) (Err (OddWord c.at)) ≡ Ok tt → ⊥) [
      | true ↦ λ r q. ⊎_elim (λ x. both c.right r x.1) (λ x. none-wrong cs q p x) w
      | false ↦ λ r q. err-ok q
    ]) refl e

later-wrong : (m : ℕ) (cs : List Check) → AllByRecursion (λ d. m < d.at) cs → (p : ℕ) → WrongAt cs p → m < p
later-wrong m [] a p w = absurd w
later-wrong m (c ∷ cs) a p w = ⊎_elim (λ x. omega (arith, a.0, x.0)) (λ x. later-wrong m cs a.1 p x) w

-- the first wrong one is the leftmost
pub leftmost-wrong : (cs : List Check) (f : LineFault) → Rise cs → first_wrong cs ≡ Err f → (p : ℕ) × (f ≡ OddWord p) × WrongAt cs p × ((q : ℕ) → WrongAt cs q → p ≤ q)
leftmost-wrong [] f r e = ok-err e
leftmost-wrong (c ∷ cs) f r e =
    (elim c.right as (λ b. c.right ≡ b → cond b (first_wrong cs) (Err (OddWord c.at)) ≡ Err f → (p : ℕ) × (f ≡ OddWord p) × WrongAt (c ∷ cs) p × ((q : ℕ) → WrongAt (c ∷ cs) q → p ≤ q)) [
      | true ↦ λ s q. let x = leftmost-wrong cs f r.1 q in (x.0, x.1, inr x.2, λ k w. ⊎_elim (λ y. both c.right s y.1) (λ y. x.3 k y) w)
      | false ↦ λ s q. (c.at, sym (err-same q), inl (refl, s), λ k w. ⊎_elim (λ y. omega (arith, y.0)) (λ y. omega (arith, later-wrong c.at cs r.0 k y)) w)
    ]) refl e

-- a task line's words, the last first: reading them is checking their shapes, and then going on with what they say
pub task-checked : (text : List ℕ) (t : Table) (w : TaskWords) → Fine text (six_of w) → task_line text t w ≡ next (first_wrong (checks (task w))) (λ _. next (fresh text t (span w.name)) (λ _. carried (added t (task_said w))))
task-checked text t w f =
    let h = f.honest in
    let odd = λ (x : Token). OddWord (place x) in
    let l = λ (z : Unit {0}). next (fresh text t (span w.name)) (λ _. carried (added t (task_said w))) in
    let go6 = λ (n : Span) (p b d : ℕ) (s : WaySet) (k : Kind). next (fresh text t n) (λ _. carried (added t (record { figures = record { period = p; budget = b; deadline = d; ways = s; kind = k }; name = record { place = n.place; len = length n.bytes } }))) in
    let go5 = λ (n : Span) (p b d : ℕ) (s : WaySet). next (kind_word w.kind) (go6 n p b d s) in
    let go4 = λ (n : Span) (p b d : ℕ). next (ways_word w.ways) (go5 n p b d) in
    let go3 = λ (n : Span) (p b : ℕ). next (number_word w.deadline) (go4 n p b) in
    let go2 = λ (n : Span) (p : ℕ). next (number_word w.budget) (go3 n p) in
    let go1 = λ (n : Span). next (number_word w.period) (go2 n) in
    let n = span w.name in
    let p = worth 0 (bytes w.period) in
    let b = worth 0 (bytes w.budget) in
    let d = worth 0 (bytes w.deadline) in
    let s = ways_of (bytes w.ways) in
    let c6 = check is_kind w.kind ∷ [] in
    let c5 = check is_ways w.ways ∷ c6 in
    let c4 = check is_number w.deadline ∷ c5 in
    let c3 = check is_number w.budget ∷ c4 in
    let c2 = check is_number w.period ∷ c3 in
    let e6 = test-step (kind_word w.kind) (is_kind (bytes w.kind)) (kind_of (bytes w.kind)) (odd w.kind) (go6 n p b d s) (first_wrong []) l refl refl in
    let e5 = test-step (ways_word w.ways) (is_ways (bytes w.ways)) s (odd w.ways) (go5 n p b d) (first_wrong c6) l refl e6 in
    let e4 = test-step (number_word w.deadline) (is_number (bytes w.deadline)) d (odd w.deadline) (go4 n p b) (first_wrong c5) l h.1.1.1.0.number e5 in
    let e3 = test-step (number_word w.budget) (is_number (bytes w.budget)) b (odd w.budget) (go3 n p) (first_wrong c4) l h.1.1.0.number e4 in
    let e2 = test-step (number_word w.period) (is_number (bytes w.period)) p (odd w.period) (go2 n) (first_wrong c3) l h.1.0.number e3 in
    test-step (name_word w.name) (is_name (bytes w.name)) n (odd w.name) go1 (first_wrong c2) l h.0.name e2

pub pair-checked : (text : List ℕ) (t : Table) (w : PairWords) → Fine text (two_of w) → pair_line text t w ≡ next (first_wrong (checks (noleak w))) (λ _. next (known text t (span w.from)) (λ k. next (known text t (span w.to)) (λ i. carried (paired t k i))))
pair-checked text t w f =
    let h = f.honest in
    let odd = λ (x : Token). OddWord (place x) in
    let l = λ (z : Unit {0}). next (known text t (span w.from)) (λ k. next (known text t (span w.to)) (λ i. carried (paired t k i))) in
    let go2 = λ (a b : Span). next (known text t a) (λ k. next (known text t b) (λ i. carried (paired t k i))) in
    let go1 = λ (a : Span). next (name_word w.to) (go2 a) in
    let e2 = test-step (name_word w.to) (is_name (bytes w.to)) (span w.to) (odd w.to) (go2 (span w.from)) (first_wrong []) l h.1.0.name refl in
    test-step (name_word w.from) (is_name (bytes w.from)) (span w.from) (odd w.from) go1 (first_wrong (check is_name w.to ∷ [])) l h.0.name e2

-- the places of the words rise
pub task-rise : (text : List ℕ) (w : TaskWords) → Fine text (six_of w) → Rise (checks (task w))
task-rise text w f = f.rise

pub pair-rise : (text : List ℕ) (w : PairWords) → Fine text (two_of w) → Rise (checks (noleak w))
pair-rise text w f = f.rise
