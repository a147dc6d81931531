use Rattle.std.proofs.Common.{◌≡◌, ℕ, ◌*◌, ◌%◌, ◌^◌, true, cond, sym, ap, ◌∙◌, arith}
use lib.Bits.{bit_or}
use Rattle.std.proofs.lemmas.Nat.{one_shl}
use Rattle.std.proofs.lemmas.Bool.Decides.{nat_tests}
use Rattle.sets.specs.Sets.{has, in_range, with_member}
use Rattle.sets.specs.declared.number_set.NumberSet.{NumberSet}
use Rattle.sets.proofs.Sets.{has-with, with-none}
use Rattle.sets.proofs.number_set.NumberSet.with.Goals as goal

pub returns-then-k-lt16 : goal.returns-then-k-lt16
unfolding with_member
returns-then-k-lt16 g c =
    let s = c.args.self in
    let k = c.args.k in
    let inside : in_range g.row.N k ≡ true = grind (arith, nat_tests, c.if-k-lt16.true, c.if-k.true) in
    let is : ◌≡◌ {A = NumberSet g.row.N} (record { bits = bit_or s.bits ((1 * 2 ^ k) % 2 ^ 16) }) (with_member s k) =
    ap (λ (v : ℕ). record { bits = bit_or s.bits v }) (one_shl k 16 c.if-k-lt16.true) ∙ ap (λ b. cond b (record { bits = bit_or s.bits (2 ^ k) }) s) (sym inside) in
    record { members = λ j. ap (λ t. has t j) is ∙ has-with s k j; value = is }

pub returns-else-k-clause-value : goal.returns-else-k-clause-value
returns-else-k-clause-value g c = with-none c.args.self c.args.k (grind (arith, nat_tests, c.else-k.either))
