-- What two resources keep of the sentences as one.
use Rattle.std.proofs.Common.{◌≡◌, ℕ, zero, suc, Bool, true, false, ◌&&◌, ◌||◌, ltb, refl, ap, ◌∙◌, inl, inr, ⊎_elim, arith}
use Rattle.std.proofs.lemmas.Bool.Decides.{nat_tests}
use Rattle.sets.specs.Sets.{WaySet, has}
use Rattle.sets.specs.Below.{some_below}
use Rattle.sets.proofs.Below.{bool_tells, some-ext}
use Rattle.resource.specs.Seen.{Seen, Sound, Fixed, Kept, RunOn, clean, touched}
use Rattle.resource.proofs.Clean.{bare-clean, clean-kept}
use Rattle.pair.specs.Both.{shared_ways, both}

or_swap : (a b c d : Bool) → ((a || b) || (c || d)) ≡ ((a || c) || (b || d))
or_swap true b c d = refl
or_swap false true true d = refl
or_swap false true false d = refl
or_swap false false c d = refl

-- some number passes one of two tests
some_or : (n : ℕ) (f g : ℕ → Bool) → some_below n (λ k. f k || g k) ≡ (some_below n f || some_below n g)
unfolding some_below
some_or zero f g = refl
some_or (suc n) f g = let below = some_or n f g in simp below (or_swap (f n) (g n) (some_below n f) (some_below n g))

-- a way that both have is clean where it is clean in both
pub both-clean : (x y : Seen) (w : ℕ) → ltb w (shared_ways x y) ≡ true → clean (both x y) w ≡ (clean x w && clean y w)
both-clean x y w e =
    let f = some-ext 16 ((both x y).traces w) (λ k. x.traces w k || y.traces w k) (λ k l. grind arith) in
    let g = some_or 16 (x.traces w) (y.traces w) in
    grind arith

pub both-past : (x y : Seen) (w : ℕ) → ltb w (shared_ways x y) ≡ false → clean (both x y) w ≡ true
both-past x y w e = bare-clean (both x y) w (λ k. grind arith)

pub both-sound : (x y : Seen) → Sound x → Sound y → Sound (both x y)
both-sound x y a b = record {
  few = let h = a.few in omega arith;
  priced = λ w l. let h = a.priced w (omega arith) in grind (arith, nat_tests);
  least = λ w. grind (arith, nat_tests);
  most = λ w l. let h = a.most w (omega arith) in let i = b.most w (omega arith) in let j = a.priced w (omega arith) in grind (arith, nat_tests);
  tasks = λ w k u. let h = a.tasks w k u in let i = b.tasks w k u in grind (arith, nat_tests);
  free = λ w l. grind (arith, nat_tests);
  bare = λ w l k. grind (arith, nat_tests);
  once = λ w l. grind (arith, nat_tests);
}

pub both-fixed : (x y x' y' : Seen) → Fixed x x' → Fixed y y' → Fixed (both x y) (both x' y')
both-fixed x y x' y' a b =
    let wa = a.ways in
    let wb = b.ways in
    let ws : shared_ways x' y' ≡ shared_ways x y = cc in
    record { ways = ws; cost = λ w. let ca = a.cost w in let cb = b.cost w in cc }

pub both-kept : (x y x' y' : Seen) (w : ℕ) → shared_ways x' y' ≡ shared_ways x y → Kept x x' w → Kept y y' w → Kept (both x y) (both x' y') w
both-kept x y x' y' w e a b =
    let ca = clean-kept x x' w a.traces in
    let cb = clean-kept y y' w b.traces in
    let i : ltb w (shared_ways x' y') ≡ ltb w (shared_ways x y) = ap (λ (n : ℕ). ltb w n) e in
    let fa = a.left in
    let fb = b.left in
    record {
      traces = λ k. let ta = a.traces k in let tb = b.traces k in cc;
      left = cc;
    }

-- a run call on the ways that both have bears on a way in each part where it bears on it in the pair
module _ (x y : Seen) (task : ℕ) (ways shared : WaySet) (named : (w : ℕ) → has shared w ≡ (has ways w && ltb w (shared_ways x y))) where
  touched-first : (w : ℕ) → touched x task shared w ≡ touched (both x y) task ways w
  touched-first w = let f = named w in grind (arith, nat_tests)

  touched-second : (w : ℕ) → touched y task shared w ≡ touched (both x y) task ways w
  touched-second w = let f = named w in grind (arith, nat_tests)

  pub both_run : (x' y' : Seen) → RunOn x task shared x' → RunOn y task shared y' → RunOn (both x y) task ways (both x' y')
  both_run x' y' ra rb =
      let fixed = both-fixed x y x' y' ra.fixed rb.fixed in
      let ws = fixed.ways in
      record {
        before = both-sound x y ra.before rb.before;
        after = both-sound x' y' ra.after rb.after;
        fixed = fixed;
        holds = λ w e. let a = ra.holds w (touched-first w ∙ e) in grind (arith, nat_tests);
        only = λ w k e p.
            ⊎_elim
            (λ q. ⊎_elim (λ o. inl o) (λ o. inr (grind (arith, nat_tests))) (ra.only w k (touched-first w ∙ e) q))
            (λ q. ⊎_elim (λ o. inl o) (λ o. inr (grind (arith, nat_tests))) (rb.only w k (touched-second w ∙ e) (grind arith)))
            (bool_tells (x'.traces w k));
        other = λ w e. both-kept x y x' y' w ws (ra.other w (touched-first w ∙ e)) (rb.other w (touched-second w ∙ e));
      }
