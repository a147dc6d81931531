-- What an accepted floor's ways cost.
use Rattle.std.specs.Prelude.{◌≡◌, ℕ, ◌<◌, ◌≤◌, true}
use Rattle.analysis.specs.Floor.{Floor}

-- each way that a task uses is there, and costs at most 1,000 calls
abbrev pub Priced : Floor → Type 0
Priced f = (i w : ℕ) → i < f.tasks → f.uses i w ≡ true → (1 ≤ f.cost w) × (f.cost w ≤ 1000)
