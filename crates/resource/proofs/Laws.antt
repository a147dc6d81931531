-- What the sentences give.
use Rattle.std.proofs.Common.{◌≡◌, ℕ, suc, ◌<◌, true, false, sym, refl, ◌∙◌, subst, inl, inr, arith}
use Rattle.std.proofs.lemmas.Bool.Decides.{eqb_tells, leb_tells}
use Rattle.resource.specs.declared.answer.Progress.{Progress}
use Rattle.resource.specs.declared.answer.Progress.TheVariants.{Done, UnderWay}
use Rattle.resource.specs.Answers.{is_done}
use Rattle.resource.specs.Seen.{Seen, Sound, Fixed, Kept, ScrubOn}
use Rattle.resource.specs.Meaning.{Meaning, Scrubbed}
use Rattle.resource.specs.Until.{UntilDone, last, more, Emptied, EachDone, none, next, Cleared}

pub kept_same : (x : Seen) (w : ℕ) → Kept x x w
kept_same x w = record { traces = λ k. refl; left = refl }

pub kept_more : (x y z : Seen) (w : ℕ) → Kept x y w → Kept y z w → Kept x z w
kept_more x y z w a b = record { traces = λ k. b.traces k ∙ a.traces k; left = b.left ∙ a.left }

pub fixed_same : (x : Seen) → Fixed x x
fixed_same x = record { ways = refl; cost = λ w. refl }

pub fixed_more : (x y z : Seen) → Fixed x y → Fixed y z → Fixed x z
fixed_more x y z a b = record { ways = b.ways ∙ a.ways; cost = λ w. b.cost w ∙ a.cost w }

-- a call answered done is the last
pub until-last : {S : Type 0} {m : Meaning S} {way : ℕ} {s t : S} {a : Progress} → Scrubbed m s way a t → is_done a ≡ true → UntilDone m way s 1 t
until-last {a = Done} h e = last h
until-last {a = UnderWay} h e = cc

-- a call answered under way comes before those that follow it
pub until-more : {S : Type 0} {m : Meaning S} {way : ℕ} {s u t : S} {a : Progress} {n : ℕ} → Scrubbed m s way a u → is_done a ≡ false → UntilDone m way u n t → UntilDone m way s (suc n) t
until-more {a = Done} h e r = cc
until-more {a = UnderWay} h e r = more h r

-- a call answered done empties the way
pub emptied-last : (x : Seen) (way : ℕ) (y : Seen) → ScrubOn x way Done y → Emptied x way 1 y
emptied-last x way y h =
    let l = h.before.least way in
    record {
      before = h.before;
      after = h.after;
      fixed = h.fixed;
      some = omega arith;
      needed = l;
      paid = λ i. let m = h.before.most way i in omega arith;
      bare = h.done refl;
      other = h.other;
    }

-- a call answered under way leaves one call less to make
pub emptied-more : (x : Seen) (way : ℕ) (y : Seen) (n : ℕ) (z : Seen) → ScrubOn x way UnderWay y → Emptied y way n z → Emptied x way (suc n) z
emptied-more x way y n z h e =
    let f = h.falls refl in
    let s = e.some in
    let d = e.needed in
    record {
      before = h.before;
      after = e.after;
      fixed = fixed_more x y z h.fixed e.fixed;
      some = omega arith;
      needed = omega arith;
      paid = λ i. let m = h.before.most way i in omega arith;
      bare = e.bare;
      other = λ w ne. kept_more x y z w (h.other w ne) (e.other w ne);
    }

-- the law of scrubbing until done
pub until-emptied : {S : Type 0} (m : Meaning S) (way : ℕ) {s : S} {n : ℕ} {t : S} → UntilDone m way s n t → Emptied (m.seen s) way n (m.seen t)
until-emptied m way {s} {n} {t} (last h) = emptied-last (m.seen s) way (m.seen t) h.within
until-emptied m way {s} {n} {t} (more {u = u} {n = k} h r) = emptied-more (m.seen s) way (m.seen u) k (m.seen t) h.within (until-emptied m way r)

-- what it comes to below n: none of these ways holds a trace
pub record ClearedBelow (n : ℕ) (x y : Seen) : Type 0 where
  pub before : Sound x
  pub after : Sound y
  pub fixed : Fixed x y
  pub bare : (w k : ℕ) → w < n → y.traces w k ≡ false

cleared-none : (x : Seen) → Sound x → ClearedBelow 0 x x
cleared-none x ok = record { before = ok; after = ok; fixed = fixed_same x; bare = λ w k l. absurd (omega arith) }

-- one way more
cleared-next : (n : ℕ) (x y : Seen) (calls : ℕ) (z : Seen) → ClearedBelow n x y → Emptied y n calls z → ClearedBelow (suc n) x z
cleared-next n x y calls z c e = record {
  before = c.before;
  after = e.after;
  fixed = fixed_more x y z c.fixed e.fixed;
  bare = λ w k l.
      elim (eqb_tells w n) [
        | inl p ↦ subst (λ (v : ℕ). z.traces v k ≡ false) (sym p.1) (e.bare k)
        | inr p ↦ (e.other w p.1).traces k ∙ c.bare w k (omega (arith, p.1))
      ];
}

pub each-cleared : {S : Type 0} (m : Meaning S) (s : S) {n : ℕ} {t : S} → Sound (m.seen s) → EachDone m s n t → ClearedBelow n (m.seen s) (m.seen t)
each-cleared m s ok none = cleared-none (m.seen s) ok
each-cleared m s {t = t} ok (next {u = u} {n = n} {calls = calls} below done) =
    cleared-next n (m.seen s) (m.seen u) calls (m.seen t) (each-cleared m s ok below) (until-emptied m n done)

-- the law of scrubbing every way
pub all-cleared : {S : Type 0} (m : Meaning S) (s t : S) → Sound (m.seen s) → EachDone m s (m.seen s).ways t → Cleared (m.seen s) (m.seen t)
all-cleared m s t ok all =
    let c = each-cleared m s ok all in
    record {
      before = c.before;
      after = c.after;
      fixed = c.fixed;
      bare = λ w k.
          elim (leb_tells (suc w) (m.seen s).ways) [
            | inl p ↦ c.bare w k p.1
            | inr p ↦ c.after.bare w (let e = c.fixed.ways in omega (arith, p.1)) k
          ];
    }
