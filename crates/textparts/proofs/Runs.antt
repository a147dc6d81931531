-- The longest run of bytes that pass a test, and what holds of each byte.
use Rattle.std.proofs.Common.{◌≡◌, ℕ, zero, suc, ◌+◌, ◌<◌, Bool, true, false, cond, ◌&&◌, eqb, List, [], ◌∷◌, length, get_or, take, drop, refl, ap, ◌∙◌, one-add, arith}
use Rattle.std.specs.List.{prefix_len}
use Rattle.std.proofs.lemmas.Bool.Decides.{nat_tests}
use Rattle.textparts.specs.Bytes.{each}

-- the run holds every byte exactly when the test holds of each
pub run-all : (p : ℕ → Bool) (xs : List ℕ) → eqb (prefix_len p xs) (length xs) ≡ each p xs
run-all p [] = refl
run-all p (x ∷ xs) =
    let rest = run-all p xs in
    elim (p x) as (λ v. eqb (cond v (1 + prefix_len p xs) 0) (suc (length xs)) ≡ (v && each p xs)) [ true ↦ grind (arith, nat_tests) | false ↦ grind (arith, nat_tests) ]

pub run-yes : (p : ℕ → Bool) (xs : List ℕ) (i d : ℕ) → i < prefix_len p xs → p (get_or xs i d) ≡ true
run-yes p [] i d h = absurd (omega arith)
run-yes p (x ∷ xs) zero d h =
    (elim (p x) as (λ v. p x ≡ v → 0 < cond v (1 + prefix_len p xs) 0 → p x ≡ true) [ true ↦ λ e lt. e | false ↦ λ e lt. absurd (omega arith) ]) refl h
run-yes p (x ∷ xs) (suc i) d h =
    (elim (p x) as (λ v. suc i < cond v (1 + prefix_len p xs) 0 → p (get_or xs i d) ≡ true) [ true ↦ λ lt. run-yes p xs i d (omega arith) | false ↦ λ lt. absurd (omega arith) ]) h

pub run-stop : (p : ℕ → Bool) (xs : List ℕ) (d : ℕ) → prefix_len p xs < length xs → p (get_or xs (prefix_len p xs) d) ≡ false
run-stop p [] d h = absurd (omega arith)
run-stop p (x ∷ xs) d h =
    (elim (p x) as (λ v. p x ≡ v → cond v (1 + prefix_len p xs) 0 < suc (length xs) → p (get_or (x ∷ xs) (cond v (1 + prefix_len p xs) 0) d) ≡ false) [ true ↦ λ e lt. simp one-add (run-stop p xs d (omega arith)) | false ↦ λ e lt. e ]) refl h

pub run-each : (p : ℕ → Bool) (xs : List ℕ) → each p (take (prefix_len p xs) xs) ≡ true
run-each p [] = refl
run-each p (x ∷ xs) =
    (elim (p x) as (λ v. p x ≡ v → each p (take (cond v (1 + prefix_len p xs) 0) (x ∷ xs)) ≡ true) [ true ↦ λ e. simp one-add (ap (λ v. v && each p (take (prefix_len p xs) xs)) e ∙ run-each p xs) | false ↦ λ e. refl ]) refl

pub each_at : (p : ℕ → Bool) (xs : List ℕ) (i d : ℕ) → each p xs ≡ true → i < length xs → p (get_or xs i d) ≡ true
each_at p [] i d e h = absurd (omega arith)
each_at p (x ∷ xs) zero d e h = grind arith
each_at p (x ∷ xs) (suc i) d e h = let rest : each p xs ≡ true = grind arith in each_at p xs i d rest (omega arith)

pub each-drop : (p : ℕ → Bool) (n : ℕ) (xs : List ℕ) → each p xs ≡ true → each p (drop n xs) ≡ true
each-drop p zero xs e = e
each-drop p (suc n) [] e = refl
each-drop p (suc n) (x ∷ xs) e = let rest : each p xs ≡ true = grind arith in each-drop p n xs rest

pub each_take : (p : ℕ → Bool) (n : ℕ) (xs : List ℕ) → each p xs ≡ true → each p (take n xs) ≡ true
each_take p zero xs e = refl
each_take p (suc n) [] e = refl
each_take p (suc n) (x ∷ xs) e =
    let first : p x ≡ true = grind arith in
    let rest : each p xs ≡ true = grind arith in
    ap (λ v. v && each p (take n xs)) first ∙ each_take p n xs rest

-- two tests that hold of each byte give a third
pub each_both : (p q r : ℕ → Bool) → ((b : ℕ) → p b ≡ true → q b ≡ true → r b ≡ true) → (xs : List ℕ) → each p xs ≡ true → each q xs ≡ true → each r xs ≡ true
each_both p q r h [] e f = refl
each_both p q r h (x ∷ xs) e f =
    let px : p x ≡ true = grind arith in
    let qx : q x ≡ true = grind arith in
    let pr : each p xs ≡ true = grind arith in
    let qr : each q xs ≡ true = grind arith in
    ap (λ v. v && each r xs) (h x px qx) ∙ each_both p q r h xs pr qr
