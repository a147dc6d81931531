-- What the operations on a number's bits do to its members.
use Rattle.std.proofs.Common.{◌≡◌, ℕ, zero, suc, ◌+◌, ◌-◌, ◌*◌, ◌/◌, ◌%◌, ◌^◌, ◌<◌, ◌≤◌, max, min, true, false, ◌&&◌, ◌||◌, eqb, ltb, leb, sym, refl, ap, ◌∙◌, ⊎_elim, mod-eq_of_lt, mul_assoc, pow-suc, zero-mul, div-one, arith, true-eqb, false-eqb}
use native.Mathlib.Nat.{mul-div-mul_right, div-eq_of_lt, mul-mod_left}
use lib.Bits.{bit_or, bit_and, or_step, and_step}
use lib.Pow.{pow-lt, mod-mod-pow}
use Rattle.std.proofs.lemmas.Nat.{or_shr, and_shr, pow_pos, pow-add, shl-shr, shr-shr, field_of, mod_below, mod-pow-add, pow_below, one_shl}
use Rattle.std.proofs.lemmas.Bool.Decides.{nat_tests, leb_tells}
use Rattle.sets.specs.Member.{member}

-- a power of two divides out
pow-down : (j k : ℕ) → 2 ^ suc j / 2 ^ suc k ≡ 2 ^ j / 2 ^ k
pow-down j k = ap (λ x. x / 2 ^ suc k) (pow-suc 2 j) ∙ ap (λ x. 2 ^ j * 2 / x) (pow-suc 2 k) ∙ mul-div-mul_right (2 ^ j) (2 ^ k) (omega (arith, pow_pos k))

pow-same : (k : ℕ) → 2 ^ k / 2 ^ k % 2 ≡ 1
pow-same zero = refl
pow-same (suc k) = ap (λ x. x % 2) (pow-down k k) ∙ pow-same k

pow-other : (j k : ℕ) → (j ≡ k → ⊥) → 2 ^ j / 2 ^ k % 2 ≡ 0
pow-other zero zero h = absurd (h refl)
pow-other zero (suc k) h = let lt : 1 < 2 ^ suc k = pow-lt {i = 0} {j = suc k} (omega arith) in ap (λ x. x % 2) (div-eq_of_lt lt)
pow-other (suc j) zero h = ap (λ x. x % 2) (div-one (2 ^ suc j) ∙ pow-suc 2 j) ∙ mul-mod_left (2 ^ j) 2
pow-other (suc j) (suc k) h = ap (λ x. x % 2) (pow-down j k) ∙ pow-other j k (λ e. h (ap suc e))

-- nobody is in the number 0
pub member-zero : (k : ℕ) → member 0 k ≡ false
unfolding member
member-zero k = let z : (0 / 2 ^ k) % 2 ≡ 0 = ap (λ (v : ℕ). v % 2) (div-eq_of_lt (pow_pos k)) in grind (arith, nat_tests)

-- one member more
pub member-or : (m j k : ℕ) → member (bit_or m (2 ^ j)) k ≡ (member m k || eqb j k)
unfolding member
member-or m j k =
    let low : bit_or (m / 2 ^ k) (2 ^ j / 2 ^ k) % 2 ≡ max (m / 2 ^ k % 2) (2 ^ j / 2 ^ k % 2) = omega (arith, or_step (m / 2 ^ k) (2 ^ j / 2 ^ k)) in
    let bits : bit_or m (2 ^ j) / 2 ^ k % 2 ≡ max (m / 2 ^ k % 2) (2 ^ j / 2 ^ k % 2) = ap (λ x. x % 2) (or_shr m (2 ^ j) k) ∙ low in
    (elim (eqb j k) as (λ v. eqb j k ≡ v → member (bit_or m (2 ^ j)) k ≡ (member m k || v)) [
      | true ↦ λ e. let s : 2 ^ j / 2 ^ k % 2 ≡ 1 = ap (λ i. 2 ^ i / 2 ^ k % 2) (true-eqb j k (sym e)) ∙ pow-same k in grind arith
      | false ↦ λ e. let s : 2 ^ j / 2 ^ k % 2 ≡ 0 = pow-other j k (false-eqb j k (sym e)) in grind arith
    ]) refl

-- a bit among the low n bits
low_bit : (b n w : ℕ) → w < n → (b % 2 ^ n / 2 ^ w) % 2 ≡ (b / 2 ^ w) % 2
low_bit b n w l =
    let e : n ≡ (suc (n - w - 1)) + w = omega arith in
    let f = field_of b (suc (n - w - 1)) w in
    let g = mod-mod-pow (b / 2 ^ w) (n - w - 1) 1 in
    let h : suc (n - w - 1) ≡ n - w - 1 + 1 = omega arith in
    ap (λ (k : ℕ). (b % 2 ^ k / 2 ^ w) % 2) e ∙ ap (λ (v : ℕ). v % 2) f ∙ ap (λ (k : ℕ). (b / 2 ^ w) % 2 ^ k % 2) h ∙ g

-- a number below a power has no bit from there on
pub member-past : (b n w : ℕ) → b < 2 ^ n → n ≤ w → member b w ≡ false
unfolding member
member-past b n w l h =
    let q : 2 ^ n ≤ 2 ^ w = ⊎_elim (λ p. let r = pow_below n w p.1 in omega arith) (λ p. let e : w ≡ n = omega (arith, p.1) in let r : 2 ^ w ≡ 2 ^ n = ap (λ (k : ℕ). 2 ^ k) e in omega arith) (leb_tells (suc n) w) in
    let z : (b / 2 ^ w) % 2 ≡ 0 = ap (λ (v : ℕ). v % 2) (div-eq_of_lt (omega arith)) in
    grind (arith, nat_tests)

-- the low n bits are the members below n
pub member-low : (b n w : ℕ) → member (b % 2 ^ n) w ≡ (member b w && ltb w n)
unfolding member
member-low b n w =
    ⊎_elim
    (λ p. let f = low_bit b n w p.1 in grind (arith, nat_tests))
    (λ p. let f = member-past (b % 2 ^ n) n w (mod_below b (2 ^ n) (pow_pos n)) (omega (arith, p.1)) in grind (arith, nat_tests))
    (leb_tells (suc w) n)

-- every member k places up
pub member-up : (b k w : ℕ) → member (b * 2 ^ k) (w + k) ≡ member b w
unfolding member
member-up b k w =
    let c : w + k ≡ k + w = omega arith in
    let g = shr-shr (b * 2 ^ k) k w in
    let h = shl-shr b k in
    let f : (b * 2 ^ k / 2 ^ (w + k)) % 2 ≡ (b / 2 ^ w) % 2 = ap (λ (j : ℕ). (b * 2 ^ k / 2 ^ j) % 2) c ∙ ap (λ (v : ℕ). v % 2) (sym g) ∙ ap (λ (v : ℕ). (v / 2 ^ w) % 2) h in
    ap (λ (v : ℕ). eqb v 1) f

-- and nobody below k
pub member-under : (b k w : ℕ) → w < k → member (b * 2 ^ k) w ≡ false
unfolding member
member-under b k w l =
    let d : k ≡ (k - w - 1 + 1) + w = omega arith in
    let e : b * 2 ^ k ≡ (b * 2 ^ (k - w - 1) * 2) * 2 ^ w =
    ap (λ (j : ℕ). b * 2 ^ j) d ∙ ap (λ (v : ℕ). b * v) (pow-add 2 (k - w - 1 + 1) w ∙ ap (λ (v : ℕ). v * 2 ^ w) (pow-add 2 (k - w - 1) 1)) ∙ sym (mul_assoc b (2 ^ (k - w - 1) * 2) (2 ^ w)) ∙ ap (λ (v : ℕ). v * 2 ^ w) (sym (mul_assoc b (2 ^ (k - w - 1)) 2)) in
    let g : (b * 2 ^ k) / 2 ^ w ≡ b * 2 ^ (k - w - 1) * 2 = ap (λ (v : ℕ). v / 2 ^ w) e ∙ shl-shr (b * 2 ^ (k - w - 1) * 2) w in
    let h : (b * 2 ^ k) / 2 ^ w % 2 ≡ 0 = ap (λ (v : ℕ). v % 2) g ∙ mul-mod_left (b * 2 ^ (k - w - 1)) 2 in
    grind (arith, nat_tests)

-- a number without members is 0
pub memberless : (n b : ℕ) → b < 2 ^ n → ((w : ℕ) → w < n → member b w ≡ false) → b ≡ 0
unfolding member
memberless zero b l h = omega arith
memberless (suc n) b l h =
    let bit : b / 2 ^ n % 2 ≡ 0 = let e = h n (omega arith) in grind (arith, nat_tests) in
    let whole : b % 2 ^ (1 + n) ≡ (b / 2 ^ n % 2 ^ 1) * 2 ^ n + b % 2 ^ n = mod-pow-add b 1 n in
    let one : b % 2 ^ (1 + n) ≡ b = let up : 1 + n ≡ suc n = omega arith in ap (λ (k : ℕ). b % 2 ^ k) up ∙ mod-eq_of_lt l in
    let top : (b / 2 ^ n % 2 ^ 1) * 2 ^ n ≡ 0 = ap (λ (v : ℕ). v * 2 ^ n) bit ∙ zero-mul (2 ^ n) in
    let small : b < 2 ^ n = let r = mod_below b (2 ^ n) (pow_pos n) in omega arith in
    memberless n b small (λ w k. h w (omega arith))

-- The operations of the code, at a number of n bits.

-- setting bit j
pub member-with : (m j n k : ℕ) → j < n → member (bit_or m ((1 * 2 ^ j) % 2 ^ n)) k ≡ (member m k || eqb j k)
member-with m j n k l = ap (λ (v : ℕ). member (bit_or m v) k) (one_shl j n l) ∙ member-or m j k

-- the remainder by 2 to the j
pub member_below : (b j n w : ℕ) → j < n → member (b % ((1 * 2 ^ j) % 2 ^ n)) w ≡ (member b w && ltb w j)
member_below b j n w l = ap (λ (v : ℕ). member (b % v) w) (one_shl j n l) ∙ member-low b j w

-- a shift to the left
pub member-raised : (b k n w : ℕ) → member ((b * 2 ^ k) % 2 ^ n) w ≡ ((leb k w && ltb w n) && member b (w - k))
member-raised b k n w =
    let low = member-low (b * 2 ^ k) n w in
    ⊎_elim
    (λ p.
    let back : w - k + k ≡ w = omega (arith, p.1) in
    let up : member (b * 2 ^ k) w ≡ member b (w - k) = ap (λ (v : ℕ). member (b * 2 ^ k) v) (sym back) ∙ member-up b k (w - k) in
    grind (arith, nat_tests))
    (λ p. let under = member-under b k w p.1 in grind (arith, nat_tests))
    (leb_tells k w)

-- a member of either
pub member-union : (a b k : ℕ) → member (bit_or a b) k ≡ (member a k || member b k)
unfolding member
member-union a b k =
    let low : bit_or (a / 2 ^ k) (b / 2 ^ k) % 2 ≡ max (a / 2 ^ k % 2) (b / 2 ^ k % 2) = omega (arith, or_step (a / 2 ^ k) (b / 2 ^ k)) in
    let bits : bit_or a b / 2 ^ k % 2 ≡ max (a / 2 ^ k % 2) (b / 2 ^ k % 2) = ap (λ x. x % 2) (or_shr a b k) ∙ low in
    grind (arith, nat_tests)

-- a member of both
pub member-both : (a b k : ℕ) → member (bit_and a b) k ≡ (member a k && member b k)
unfolding member
member-both a b k =
    let low : bit_and (a / 2 ^ k) (b / 2 ^ k) % 2 ≡ min (a / 2 ^ k % 2) (b / 2 ^ k % 2) = omega (arith, and_step (a / 2 ^ k) (b / 2 ^ k)) in
    let bits : bit_and a b / 2 ^ k % 2 ≡ min (a / 2 ^ k % 2) (b / 2 ^ k % 2) = ap (λ x. x % 2) (and_shr a b k) ∙ low in
    grind (arith, nat_tests)
