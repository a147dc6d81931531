-- What is seen of two resources as one.
use Rattle.std.specs.Prelude.{ℕ, ◌+◌, min, max, cond, ◌&&◌, ◌||◌, nat_lt}
use Rattle.resource.specs.Seen.{Seen, clean}

-- the number of ways that both have
abbrev pub shared_ways : Seen → Seen → ℕ
shared_ways x y = min x.ways y.ways

-- the calls that a way of one part may still need for the pair, which scrubs no clean part
abbrev pub owed : Seen → ℕ → ℕ
owed x w = cond (clean x w) 0 (x.left w)

-- the smaller number of ways, the sum of the costs, the union of the traces, and the sum of the calls owed
abbrev pub both : Seen → Seen → Seen
both x y = record {
  ways = shared_ways x y;
  cost = λ w. cond (nat_lt w (shared_ways x y)) (x.cost w + y.cost w) 0;
  traces = λ w k. nat_lt w (shared_ways x y) && (x.traces w k || y.traces w k);
  left = λ w. cond (nat_lt w (shared_ways x y)) (max 1 (owed x w + owed y w)) 1;
}
