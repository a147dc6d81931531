-- What a test of all numbers below a limit says.
use Rattle.std.proofs.Common.{◌≡◌, ℕ, zero, suc, ◌<◌, Bool, true, false, ◌⊎◌, Decides, refl, inl, inr, arith, sym}
use Rattle.std.specs.Prelude.{MatchBool}
use Rattle.std.proofs.lemmas.Bool.Decides.{Decides-below_or}
use Rattle.sets.specs.Below.{some_below, SomeBelow, NoneBelow}

-- a test is true or false
pub bool_tells : (b : Bool) → (b ≡ true) ⊎ (b ≡ false)
bool_tells true = inl refl
bool_tells false = inr refl

-- some number passes where the test of all says so
pub some-decides : (n : ℕ) (f : ℕ → Bool) → Decides (some_below n f) ((k : ℕ) × (k < n) × (f k ≡ true))
unfolding some_below
some-decides n f = Decides-below_or f (λ k. f k ≡ true) (λ m. some_below m f) (λ k. (λ e. e, λ e. e)) refl (λ m. refl) n

pub some-true : (n : ℕ) (f : ℕ → Bool) (k : ℕ) → k < n → f k ≡ true → some_below n f ≡ true
some-true n f k h e = (some-decides n f).1 (k, h, e)

pub some_at : (n : ℕ) (f : ℕ → Bool) → some_below n f ≡ true → (k : ℕ) × (k < n) × (f k ≡ true)
some_at n f e = (some-decides n f).0 e

pub none-at : (n : ℕ) (f : ℕ → Bool) → some_below n f ≡ false → (k : ℕ) → k < n → f k ≡ false
none-at n f e k h = let g = some-true n f k h in grind arith

-- none passes
pub some-false : (n : ℕ) (f : ℕ → Bool) → ((k : ℕ) → k < n → f k ≡ false) → some_below n f ≡ false
unfolding some_below
some-false zero f h = refl
some-false (suc n) f h =
    let here : f n ≡ false = h n (omega arith) in
    let below : some_below n f ≡ false = some-false n f (λ k l. h k (omega arith)) in
    simp (here, below)

-- tests that agree below the limit
pub some-ext : (n : ℕ) (f g : ℕ → Bool) → ((k : ℕ) → k < n → f k ≡ g k) → some_below n f ≡ some_below n g
unfolding some_below
some-ext zero f g h = refl
some-ext (suc n) f g h =
    let here : f n ≡ g n = h n (omega arith) in
    let below : some_below n f ≡ some_below n g = some-ext n f g (λ k l. h k (omega arith)) in
    simp (here, below)

-- an answer that goes by cases is that of the test of all
pub some-cases : (n : ℕ) (f : ℕ → Bool) (b : Bool) → MatchBool b (SomeBelow n f) (NoneBelow n f) → b ≡ some_below n f
some-cases n f true h = sym (some-true n f h.at h.below h.passes)
some-cases n f false h = sym (some-false n f h)
