-- A set with one number more, by its members.
use Rattle.std.proofs.Common.{◌≡◌, ℕ, ◌%◌, ◌^◌, min, true, false, not, ◌&&◌, ◌||◌, eqb, ◌<◌, ap, sym, ⊎_elim, arith}
use Rattle.std.proofs.Math.Nat.{mod-mod, zero-mod}
use Rattle.std.proofs.lemmas.Bool.Decides.{nat_tests, eqb_tells}
use Rattle.sets.specs.Sets.{has, in_range, members_below, nobody, with_member, is_memberless}
use Rattle.sets.specs.declared.number_set.NumberSet.{NumberSet}
use Rattle.sets.proofs.Below.{bool_tells, some_at, none-at}
use Rattle.std.proofs.lemmas.Nat.{mod_below, pow_pos}
use Rattle.sets.specs.Member.{member}
use Rattle.sets.specs.Below.{some_below}
use Rattle.sets.proofs.Members.{member-or, member-zero, member-low, memberless}

pub has-with : {n : ℕ} (s : NumberSet n) (k j : ℕ) → has (with_member s k) j ≡ (has s j || (eqb k j && in_range n j))
unfolding has with_member
has-with {n} s k j =
    ⊎_elim
    (λ p. let e = member-or s.bits k j in grind (arith, nat_tests, p))
    (λ p. grind (arith, nat_tests, p))
    (bool_tells (in_range n k))

-- a number out of range changes nothing
pub with-none : {n : ℕ} (s : NumberSet n) (k : ℕ) → in_range n k ≡ false → s ≡ with_member s k
unfolding with_member
with-none s k e = grind (arith, e)

some-nonzero : (n : ℕ) (s : NumberSet n) → some_below n (has s) ≡ true → eqb (s.bits % 2 ^ min n 16) 0 ≡ not (some_below n (has s))
unfolding has
some-nonzero n s e =
    let h = some_at n (has s) e in
    let low = member-low s.bits (min n 16) h.0 in
    let inside : h.0 < min n 16 = grind (arith, nat_tests, h.1, h.2) in
    let there : member (s.bits % 2 ^ min n 16) h.0 ≡ true = grind (arith, nat_tests, h.2) in
    ⊎_elim
    (λ p. let z = member-zero h.0 in let q : member (s.bits % 2 ^ min n 16) h.0 ≡ member 0 h.0 = ap (λ (v : ℕ). member v h.0) p.1 in grind (arith, nat_tests))
    (λ p. grind (arith, p.0, e))
    (eqb_tells (s.bits % 2 ^ min n 16) 0)

none-zero : (n : ℕ) (s : NumberSet n) → some_below n (has s) ≡ false → eqb (s.bits % 2 ^ min n 16) 0 ≡ not (some_below n (has s))
unfolding has
none-zero n s e =
    let z : s.bits % 2 ^ min n 16 ≡ 0 = memberless (min n 16) (s.bits % 2 ^ min n 16) (mod_below s.bits (2 ^ min n 16) (pow_pos (min n 16)))
    (λ w l. let f = none-at n (has s) e w (omega arith) in let low = member-low s.bits (min n 16) w in grind (arith, nat_tests)) in
    grind (arith, nat_tests)

-- only the number 0 has no member in range
pub none-tells : {n : ℕ} (s : NumberSet n) → eqb (s.bits % 2 ^ min n 16) 0 ≡ is_memberless s
unfolding is_memberless
none-tells {n} s =
    ⊎_elim
    (some-nonzero n s)
    (none-zero n s)
    (bool_tells (some_below n (has s)))

-- what lies below a limit lies below it
pub below-below : {n : ℕ} (s : NumberSet n) (k : ℕ) → members_below s k ≡ members_below (members_below s k) k
unfolding members_below
below-below s k = ap (λ (b : ℕ). record { bits = b }) (sym (mod-mod s.bits (2 ^ min k 16)))

pub none-below : (n k : ℕ) → nobody n ≡ members_below (nobody n) k
unfolding members_below nobody
none-below n k = ap (λ (b : ℕ). record { bits = b }) (sym (zero-mod (2 ^ min k 16)))
