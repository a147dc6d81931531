-- What the way cache means as a resource.
use Rattle.std.specs.Prelude.{◌≡◌, ℕ, List}
use Rattle.std.specs.Borrow.{MutBor}
use Rattle.sets.specs.Sets.{WaySet}
use Rattle.resource.specs.declared.answer.Progress.{Progress}
use Rattle.resource.specs.Meaning.{Meaning}
use Rattle.way_cache.specs.Marks.{marks_seen}
use Rattle.way_cache.specs.Calls.{Writes, Scrubs}
use Rattle.way_cache.specs.declared.cache.WayCache.{WayCache}

-- the lent memory: `.ghost_name` says which it is, and `.now` the marks in it
abbrev pub memory_of : WayCache → MutBor (List ℕ)
memory_of s = s.marks

-- one call on the cache: what it leaves of the marks, in the memory that was lent and in no other
pub record CacheRuns (s : WayCache) (task : ℕ) (ways : WaySet) (address : ℕ) (t : WayCache) : Type 0 where
  pub same : (memory_of t).ghost_name ≡ (memory_of s).ghost_name
  pub writes : Writes (memory_of s).now task ways address (memory_of t).now

pub record CacheScrubs (s : WayCache) (way : ℕ) (answer : Progress) (t : WayCache) : Type 0 where
  pub same : (memory_of t).ghost_name ≡ (memory_of s).ghost_name
  pub scrubs : Scrubs (memory_of s).now way answer (memory_of t).now

-- the way cache as a resource
abbrev pub cache_meaning : Meaning WayCache
cache_meaning = record { seen = λ s. marks_seen (memory_of s).now; ran = CacheRuns; scrubbed = CacheScrubs }
