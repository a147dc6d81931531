use Rattle.std.proofs.Common.{◌≡◌, ℕ, ◌+◌, ◌-◌, ◌<◌, true, false, cond, leb, List, [], length, take, drop, sym, ap, ◌∙◌, arith}
use Rattle.std.proofs.lemmas.Bool.Decides.{nat_tests}
use Rattle.taskset.specs.declared.task.Name.{Name}
use Rattle.taskset.specs.Table.{name_in}
use Rattle.taskset.proofs.task.Name.within.Goals as goal
use Rattle.taskset.proofs.task.Name.within.Goals.{else-self-all-via-then-self-all+else-self-all-2, else-self-all-via-else-self-all}

pub returns-then-self-all-2 : goal.returns-then-self-all-2
unfolding name_in
returns-then-self-all-2 c =
    let n = c.args.self in
    let fits : leb (n.place + n.len) (length c.args.text.now) ≡ true = grind (arith, nat_tests) in
    let len : n.place + n.len - n.place ≡ n.len = omega arith in
    ap (λ (k : ℕ). take k (drop n.place c.args.text.now)) len ∙ ap (λ b. cond b (take n.len (drop n.place c.args.text.now)) []) (sym fits)

past : (text : List ℕ) (n : Name) → length text < n.place + n.len → take (length text - length text) (drop (length text) text) ≡ name_in text n
unfolding name_in
past text n h =
    let runs : leb (n.place + n.len) (length text) ≡ false = grind (arith, nat_tests) in
    let none : length text - length text ≡ 0 = omega arith in
    ap (λ (k : ℕ). take k (drop (length text) text)) none ∙ ap (λ b. cond b (take n.len (drop n.place text)) []) (sym runs)

pub returns-else-self-all : goal.returns-else-self-all
returns-else-self-all c =
    elim c.else-self-all.branch [
      | else-self-all-via-then-self-all+else-self-all-2 w ↦ past c.args.text.now c.args.self (omega (arith, w.if-self-all.true, w.if-self-all-2.false))
      | else-self-all-via-else-self-all w ↦ past c.args.text.now c.args.self (omega (arith, w.if-self-all.false))
    ]
