-- The conditions of any two answers exclude each other.
use Rattle.std.proofs.Common.{◌≡◌, ℕ, suc, ◌<◌, Bool, true, false, Ok, Err, refl, ap, ⊎_elim, arith}
use Rattle.std.proofs.lemmas.Bool.Decides.{leb_tells}
use Rattle.sets.specs.Below.{IsLowest, NoneBelow}
use Rattle.analysis.specs.declared.fault.AnalysisFault.{AnalysisFault}
use Rattle.analysis.specs.declared.fault.AnalysisFault.TheVariants.{NoTask, NoWay, DearWay, ShortList, NoBound}
use Rattle.analysis.specs.Floor.{Floor}
use Rattle.analysis.specs.Verdict.{Bounded, FirstUnbounded, Ready, Refused}
use Rattle.worked.specs.OneVerdict.{OneVerdict}

none-lowest : (n : ℕ) (p : ℕ → Bool) (k : ℕ) → NoneBelow n p → IsLowest n p k → ⊥
none-lowest n p k h g = let a = h k g.below in let b = g.passes in let z : ◌≡◌ {A = Bool} true false = cc (a, b) in let o : ◌≡◌ {A = ℕ} 0 1 = cc in omega arith

-- two lowest numbers are the same
same : (P : ℕ → Type 0) (k j : ℕ) → (k < j → ⊥) → (j < k → ⊥) → k ≡ j
same P k j a b = ⊎_elim (λ p. absurd (a p.1)) (λ p. ⊎_elim (λ q. absurd (b q.1)) (λ q. omega (arith, p.1, q.1)) (leb_tells (suc j) k)) (leb_tells (suc k) j)

lowest-same : (n : ℕ) (p : ℕ → Bool) (k j : ℕ) → IsLowest n p k → IsLowest n p j → k ≡ j
lowest-same n p k j a b = same (λ i. p i ≡ true) k j (λ l. none-lowest j p k b.first (record { below = l; passes = a.passes; first = a.first })) (λ l. none-lowest k p j a.first (record { below = l; passes = b.passes; first = b.first }))

unbounded-same : (f : Floor) (k j : ℕ) → FirstUnbounded f k → FirstUnbounded f j → k ≡ j
unbounded-same f k j a b = same (Bounded f) k j (λ l. let h = b.lowest k l in a.fails h.0 h.1) (λ l. let h = a.lowest j l in b.fails h.0 h.1)

refused-one : (f : Floor) (ways room : ℕ) (e d : AnalysisFault) → Refused f ways room e → Refused f ways room d → e ≡ d
refused-one f ways room NoTask NoTask x y = refl
refused-one f ways room NoTask (NoWay j) x y = absurd (omega (arith, y.below))
refused-one f ways room NoTask (DearWay j) x y = absurd (omega (arith, y.0))
refused-one f ways room NoTask ShortList x y = absurd (omega (arith, y.0))
refused-one f ways room NoTask (NoBound j) x y = absurd (omega (arith, y.0.some))
refused-one f ways room (NoWay i) NoTask x y = absurd (omega (arith, x.below))
refused-one f ways room (NoWay i) (NoWay j) x y = ap (λ (k : ℕ). NoWay k) (lowest-same _ _ i j x y)
refused-one f ways room (NoWay i) (DearWay j) x y = absurd (none-lowest _ _ i y.1 x)
refused-one f ways room (NoWay i) ShortList x y = absurd (none-lowest _ _ i y.1 x)
refused-one f ways room (NoWay i) (NoBound j) x y = absurd (none-lowest _ _ i y.0.there x)
refused-one f ways room (DearWay i) NoTask x y = absurd (omega (arith, x.0))
refused-one f ways room (DearWay i) (NoWay j) x y = absurd (none-lowest _ _ j x.1 y)
refused-one f ways room (DearWay i) (DearWay j) x y = ap (λ (k : ℕ). DearWay k) (lowest-same _ _ i j x.2 y.2)
refused-one f ways room (DearWay i) ShortList x y = absurd (none-lowest _ _ i y.2 x.2)
refused-one f ways room (DearWay i) (NoBound j) x y = absurd (none-lowest _ _ i y.0.cheap x.2)
refused-one f ways room ShortList NoTask x y = absurd (omega (arith, x.0))
refused-one f ways room ShortList (NoWay j) x y = absurd (none-lowest _ _ j x.1 y)
refused-one f ways room ShortList (DearWay j) x y = absurd (none-lowest _ _ j x.2 y.2)
refused-one f ways room ShortList ShortList x y = refl
refused-one f ways room ShortList (NoBound j) x y = absurd (omega (arith, x.3, y.0.fits))
refused-one f ways room (NoBound i) NoTask x y = absurd (omega (arith, x.0.some))
refused-one f ways room (NoBound i) (NoWay j) x y = absurd (none-lowest _ _ j x.0.there y)
refused-one f ways room (NoBound i) (DearWay j) x y = absurd (none-lowest _ _ j x.0.cheap y.2)
refused-one f ways room (NoBound i) ShortList x y = absurd (omega (arith, y.3, x.0.fits))
refused-one f ways room (NoBound i) (NoBound j) x y = ap (λ (k : ℕ). NoBound k) (unbounded-same f i j x.1 y.1)

taken-not-refused : (f : Floor) (ways room : ℕ) (e : AnalysisFault) → Ready f ways room × ((i : ℕ) → i < f.tasks → Bounded f i) → Refused f ways room e → ⊥
taken-not-refused f ways room NoTask x y = omega (arith, x.0.some)
taken-not-refused f ways room (NoWay i) x y = none-lowest _ _ i x.0.there y
taken-not-refused f ways room (DearWay i) x y = none-lowest _ _ i x.0.cheap y.2
taken-not-refused f ways room ShortList x y = omega (arith, x.0.fits, y.3)
taken-not-refused f ways room (NoBound i) x y = let h = x.1 i y.1.below in y.1.fails h.0 h.1

pub one-verdict : OneVerdict
one-verdict f ways room (Ok u) (Ok v) x y = refl
one-verdict f ways room (Ok u) (Err e) x y = absurd (taken-not-refused f ways room e x y)
one-verdict f ways room (Err e) (Ok u) x y = absurd (taken-not-refused f ways room e y x)
one-verdict f ways room (Err e) (Err d) x y = ap (λ (z : AnalysisFault). Err z) (refused-one f ways room e d x y)
