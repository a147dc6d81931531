-- The floor that a table of tasks and the costs of the ways make.
use Rattle.std.specs.Prelude.{◌≡◌, ℕ, zero, suc, ◌<◌, List, [], ◌∷◌}
use Rattle.sets.specs.Sets.{has}
use Rattle.taskset.specs.declared.task.Figures.{Figures}
use Rattle.taskset.specs.declared.task.Kind.TheVariants.{Split}
use Rattle.taskset.specs.declared.task.Task.{Task}
use Rattle.taskset.specs.Figures.{is_whole}
use Rattle.taskset.specs.Table.{Table, count, noleak}
use Rattle.analysis.specs.Floor.{Floor}

-- figures that are all 0, without a way
abbrev pub no_figures : Figures
no_figures = record { period = 0; budget = 0; deadline = 0; ways = record { bits = 0 }; kind = Split }

-- the figures of the task of a number; those where there is none
unfoldable pub figures_at : List Task → ℕ → Figures
figures_at [] i = no_figures
figures_at (t ∷ ts) zero = t.figures
figures_at (t ∷ ts) (suc i) = figures_at ts i

-- the floor of the table's tasks on eight ways of these costs
unfoldable pub floor_of : Table → (ℕ → ℕ) → Floor
floor_of t cost = record {
  tasks = count t;
  ways = 8;
  period = λ i. (figures_at t.tasks i).period;
  budget = λ i. (figures_at t.tasks i).budget;
  deadline = λ i. (figures_at t.tasks i).deadline;
  whole = λ i. is_whole (figures_at t.tasks i).kind;
  uses = λ i w. has (figures_at t.tasks i).ways w;
  noleak = noleak t;
  cost = cost;
}

-- x are the figures of task i of the floor
pub record FiguresOf (f : Floor) (i : ℕ) (x : Figures) : Type 0 where
  pub listed : i < f.tasks
  pub period : x.period ≡ f.period i
  pub budget : x.budget ≡ f.budget i
  pub deadline : x.deadline ≡ f.deadline i
  pub whole : is_whole x.kind ≡ f.whole i
  pub uses : (w : ℕ) → has x.ways w ≡ f.uses i w
