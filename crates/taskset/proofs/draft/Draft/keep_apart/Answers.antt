use Rattle.std.proofs.Common.{◌≡◌, ℕ, ◌<◌, true, ◌&&◌, ◌||◌, eqb, List, get_or, take, set, sym, ap, ◌∙◌, subst, arith, length-set}
use Rattle.std.proofs.Math.Seq.{take-set-lt}
use Rattle.std.proofs.lemmas.List.{length-take-le, get_or-take, drop-set-lt}
use Rattle.sets.specs.Sets.{TaskSet, nobody, with_member}
use Rattle.taskset.specs.Places.{table_in, IsTidy}
use Rattle.taskset.specs.declared.draft.Draft.TheInside.{Inside}
use Rattle.taskset.specs.Table.{Table, IsLawful, both_listed, count, noleak, with_pair}
use Rattle.taskset.proofs.Tables.{both-listed, lawful-pair, noleak-pair}
use Rattle.taskset.proofs.draft.Draft.keep_apart.Goals as goal

counted : (d : Inside) → IsTidy d → count (table_in d) ≡ d.count
counted d i = length-take-le d.count d.tasks (omega (arith, i.few, i.tasks))

-- the places with the pair, as a table
paired : (d : Inside) (from to : ℕ) (s : TaskSet) → to < d.count → s ≡ with_member (get_or d.pairs to (nobody 16)) from → table_in (record { count = d.count; tasks = d.tasks; pairs = set d.pairs to s }) ≡ with_pair (table_in d) from to
paired d from to s l e =
    let place : get_or d.pairs to (nobody 16) ≡ get_or (take d.count d.pairs) to (nobody 16) = sym (get_or-take d.count d.pairs to (nobody 16) l) in
    let new : take d.count (set d.pairs to s) ≡ set (take d.count d.pairs) to (with_member (get_or (take d.count d.pairs) to (nobody 16)) from) =
    take-set-lt d.count d.pairs to s l ∙ ap (λ x. set (take d.count d.pairs) to x) (e ∙ ap (λ x. with_member x from) place) in
    ap (λ (y : List TaskSet). let t : Table = record { tasks = take d.count d.tasks; pairs = y } in t) new

pub invariant_of-self : goal.invariant_of-self
unfolding nobody
invariant_of-self c =
    let d = c.self.inside in
    let i = c.self.invariant in
    let h : both_listed (table_in d) c.args.from c.args.to ≡ true = subst (λ t. both_listed t c.args.from c.args.to ≡ true) (sym c.self.view_is) c.requires.listed in
    let l = both-listed (table_in d) c.args.from c.args.to h in
    let below : c.args.to < d.count = omega (arith, counted d i, l.1) in
    record {
      few = i.few;
      tasks = i.tasks;
      pairs = length-set d.pairs c.args.to c.with.result ∙ i.pairs;
      unused = drop-set-lt d.count d.pairs c.args.to c.with.result below ∙ i.unused;
      blank = i.blank;
      lawful = subst IsLawful (sym (paired d c.args.from c.args.to c.with.result below c.with.ensures.value)) (lawful-pair (table_in d) c.args.from c.args.to i.lawful l.0 l.1 c.requires.two);
    }

pub returns : goal.returns
unfolding nobody
returns c =
    let d = c.self.inside in
    let i = c.self.invariant in
    let h : both_listed (table_in d) c.args.from c.args.to ≡ true = subst (λ t. both_listed t c.args.from c.args.to ≡ true) (sym c.self.view_is) c.requires.listed in
    let l = both-listed (table_in d) c.args.from c.args.to h in
    let below : c.args.to < d.count = omega (arith, counted d i, l.1) in
    let value = paired d c.args.from c.args.to c.with.result below c.with.ensures.value ∙ ap (λ t. with_pair t c.args.from c.args.to) c.self.view_is in
    let law = noleak-pair (table_in d) c.args.from c.args.to i.lawful l.0 l.1 in
    record { value = value; pairs = λ k j. ap (λ t. noleak t k j) (paired d c.args.from c.args.to c.with.result below c.with.ensures.value) ∙ law k j ∙ ap (λ t. noleak t k j || (eqb k c.args.from && eqb j c.args.to)) c.self.view_is }
