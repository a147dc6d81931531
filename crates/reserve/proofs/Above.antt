-- What hiding the lowest ways keeps of the sentences.
use Rattle.std.proofs.Common.{◌≡◌, ℕ, ◌+◌, ◌-◌, ◌≤◌, ◌&&◌, ltb, leb, ap, ◌∙◌, arith}
use Rattle.std.proofs.lemmas.Bool.Decides.{nat_tests}
use Rattle.sets.specs.Sets.{WaySet, has}
use Rattle.resource.specs.declared.answer.Progress.{Progress}
use Rattle.resource.specs.Seen.{Seen, Sound, Fixed, Kept, RunOn, ScrubOn, touched}
use Rattle.reserve.specs.Reserves.{above}

pub above-sound : (k : ℕ) (x : Seen) → Sound x → Sound (above k x)
above-sound k x ok = record {
  few = let h = ok.few in omega arith;
  priced = λ w l. ok.priced (w + k) (omega arith);
  least = λ w. ok.least (w + k);
  most = λ w l. ok.most (w + k) (omega arith);
  tasks = λ w. ok.tasks (w + k);
  free = λ w l. ok.free (w + k) (omega arith);
  bare = λ w l. ok.bare (w + k) (omega arith);
  once = λ w l. ok.once (w + k) (omega arith);
}

above-fixed : (k : ℕ) (x y : Seen) → Fixed x y → Fixed (above k x) (above k y)
above-fixed k x y h = record { ways = ap (λ (n : ℕ). n - k) h.ways; cost = λ w. h.cost (w + k) }

above_kept : (k : ℕ) (x y : Seen) (w : ℕ) → Kept x y (w + k) → Kept (above k x) (above k y) w
above_kept k x y w h = record { traces = h.traces; left = h.left }

-- the sets of ways above and below
module _ (k : ℕ) (x : Seen) (ways below : WaySet) (named : (w : ℕ) → has below (w + k) ≡ (has ways w && ltb w (x.ways - k))) where
  touched-below : (task w : ℕ) → touched x task below (w + k) ≡ touched (above k x) task ways w
  touched-below task w = let f = named w in grind (arith, nat_tests)

  pub above-run : (task : ℕ) (y : Seen) → RunOn x task below y → RunOn (above k x) task ways (above k y)
  above-run task y r = record {
    before = above-sound k x r.before;
    after = above-sound k y r.after;
    fixed = above-fixed k x y r.fixed;
    holds = λ w e. r.holds (w + k) (touched-below task w ∙ e);
    only = λ w j e. r.only (w + k) j (touched-below task w ∙ e);
    other = λ w e. above_kept k x y w (r.other (w + k) (touched-below task w ∙ e));
  }

pub above-scrub : (k : ℕ) (x : Seen) (way : ℕ) (a : Progress) (y : Seen) → ScrubOn x (way + k) a y → ScrubOn (above k x) way a (above k y)
above-scrub k x way a y r = record {
  before = above-sound k x r.before;
  after = above-sound k y r.after;
  fixed = above-fixed k x y r.fixed;
  done = r.done;
  falls = r.falls;
  adds = r.adds;
  past = λ l. r.past (omega arith);
  other = λ w ne. above_kept k x y w (r.other (w + k) (λ e. ne (omega arith)));
}

-- a set of ways, cut to n and raised by k
pub raised-named : (k n : ℕ) (ways below : WaySet) → n + k ≤ 8 → ((w : ℕ) → has below w ≡ ((leb k w && ltb w 8) && (has ways (w - k) && ltb (w - k) n))) → (w : ℕ) → has below (w + k) ≡ (has ways w && ltb w n)
raised-named k n ways below l f w =
    let a = f (w + k) in
    let e : w + k - k ≡ w = omega arith in
    let b : has ways (w + k - k) ≡ has ways w = ap (has ways) e in
    let d : ltb (w + k - k) n ≡ ltb w n = ap (λ (v : ℕ). ltb v n) e in
    grind (arith, nat_tests)
