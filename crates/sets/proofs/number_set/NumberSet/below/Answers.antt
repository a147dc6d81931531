use Rattle.std.proofs.Common.{◌≡◌, ℕ, ◌%◌, ◌^◌, ◌<◌, min, sym, ap, ◌∙◌, arith, mod-eq_of_lt}
use Rattle.std.proofs.lemmas.Bool.Decides.{nat_tests}
use Rattle.std.proofs.lemmas.Nat.{one_shl}
use Rattle.sets.specs.Sets.{has, members_below}
use Rattle.sets.proofs.Members.{member_below}
use Rattle.sets.proofs.number_set.NumberSet.below.Goals as goal

pub returns-then-n-ge16 : goal.returns-then-n-ge16
unfolding has members_below
returns-then-n-ge16 g c =
    let s = c.args.self in
    let k : min c.args.n 16 ≡ 16 = omega arith in
    let e : s.bits % 2 ^ min c.args.n 16 ≡ s.bits = ap (λ (j : ℕ). s.bits % 2 ^ j) k ∙ mod-eq_of_lt (omega arith) in
    record { members = λ k. grind (arith, nat_tests); value = ap (λ (b : ℕ). record { bits = b }) (sym e) }

pub returns : goal.returns
unfolding has members_below
returns g c =
    let s = c.args.self in
    let n = c.args.n in
    let l : n < 16 = omega arith in
    let k : n ≡ min n 16 = omega arith in
    record {
      members = λ k. let e = member_below s.bits n 16 k l in grind (arith, nat_tests);
      value = ap (λ (v : ℕ). record { bits = s.bits % v }) (one_shl n 16 l ∙ ap (λ (j : ℕ). 2 ^ j) k);
    }
