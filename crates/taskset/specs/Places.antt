-- The places of a draft: those in use, which are its table, and beyond them nothing.
use Rattle.std.specs.Prelude.{◌≡◌, ◌-◌, ◌≤◌, length, take, drop, replicate}
use Rattle.sets.specs.Sets.{nobody}
use Rattle.taskset.specs.declared.draft.Draft.TheInside.{Inside}
use Rattle.taskset.specs.declared.task.Kind.TheVariants.{Split}
use Rattle.taskset.specs.declared.task.Task.{Task}
use Rattle.taskset.specs.Table.{Table, IsLawful}

-- what stands in a place that is not in use
abbrev pub no_task : Task
no_task = record {
  figures = record { period = 1; budget = 1; deadline = 1; ways = nobody 8; kind = Split };
  name = record { place = 0; len = 0 };
}

-- the places in use
abbrev pub table_in : Inside → Table
table_in d = record { tasks = take d.count d.tasks; pairs = take d.count d.pairs }

-- sixteen places, the table lawful, and the other places blank
pub record IsTidy (d : Inside) : Type 0 where
  pub few : d.count ≤ 16
  pub tasks : length d.tasks ≡ 16
  pub pairs : length d.pairs ≡ 16
  pub unused : drop d.count d.pairs ≡ replicate (16 - d.count) (nobody 16)
  pub blank : drop d.count d.tasks ≡ replicate (16 - d.count) no_task
  pub lawful : IsLawful (table_in d)
