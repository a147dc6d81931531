-- The line of each call, at the end of what was told before it.
use Rattle.std.specs.Prelude.{ℕ, Bool, cond, List, [], ◌++◌, Ok, Err, codes, decimal, Result}
use Rattle.refusal.specs.Told.{Told}
use Rattle.printed.specs.Lines.{with_refusal}
use Rattle.taskset.specs.declared.fault.DraftFault.{DraftFault}
use Rattle.taskset.specs.declared.task.Task.{Task}
use Rattle.taskset.specs.Table.{name_in, task_at}
use Rattle.resource.specs.declared.answer.Progress.{Progress}
use Rattle.resource.specs.declared.answer.Progress.TheVariants.{Done, UnderWay}
use Rattle.runs.specs.declared.answer.TickAnswer.{TickAnswer}
use Rattle.runs.specs.declared.answer.TickAnswer.TheVariants.{Rest, Scrub, Run}
use Rattle.runs.specs.declared.fault.CallFault.{CallFault}
use Rattle.runs.specs.Faults.{call_told}

-- a refusal as a line
abbrev pub with_no_line : List ℕ → Told → List ℕ
with_no_line out t = with_refusal out t ++ codes "\n"

-- a line that is no call, by its place
abbrev pub with_odd : List ℕ → ℕ → List ℕ
with_odd out p = (((out ++ codes "odd call ") ++ codes "at ") ++ decimal p) ++ codes "\n"

-- the word of a call that is not refused, or the refusal
abbrev pub with_answer : List ℕ → List ℕ → Result (Unit {0}) CallFault → List ℕ
with_answer out w (Ok u) = out ++ w
with_answer out w (Err e) = with_refusal out (call_told e)

-- a call by its verb and a name, and its answer
abbrev pub with_called : List ℕ → List ℕ → List ℕ → List ℕ → Result (Unit {0}) CallFault → List ℕ
with_called out verb name w r =
    with_answer (((out ++ verb) ++ name) ++ codes ": ") w r ++ codes "\n"

-- an announcement by a name, and its answer
abbrev pub with_announced : List ℕ → List ℕ → Result (Unit {0}) CallFault → List ℕ
with_announced out name r = with_called out (codes "announce ") name (codes "taken") r

-- a finish by a name, and its answer
abbrev pub with_finished : List ℕ → List ℕ → Result (Unit {0}) CallFault → List ℕ
with_finished out name r = with_called out (codes "finish ") name (codes "finished") r

-- a task's name out of the table text; empty where there is no task
abbrev pub name_at : List ℕ → Result Task DraftFault → List ℕ
name_at text (Ok t) = name_in text t.name
name_at text (Err e) = []

-- whether a scrub is done
abbrev pub with_progress : List ℕ → Progress → List ℕ
with_progress out Done = out ++ codes "done"
with_progress out UnderWay = out ++ codes "under way"

-- a scrub call on a way for a task
abbrev pub with_scrub : List ℕ → List ℕ → ℕ → Progress → List ℕ
with_scrub out name w p =
    let first = ((out ++ codes "scrub way ") ++ decimal w) ++ codes " for " in
    with_progress ((first ++ name) ++ codes ", ") p

-- that a job has ended, where it has
abbrev pub with_end : List ℕ → Bool → List ℕ
with_end out ended = cond ended (out ++ codes ", ended") out

-- a run of a task
abbrev pub with_run : List ℕ → List ℕ → Bool → List ℕ
with_run out name ended = with_end ((out ++ codes "run ") ++ name) ended

-- what a tick was answered
abbrev pub with_tick : List ℕ → List ℕ → List Task → TickAnswer → List ℕ
with_tick out text tasks Rest = out ++ codes "rest"
with_tick out text tasks (Scrub i w p) = with_scrub out (name_at text (task_at tasks i)) w p
with_tick out text tasks (Run i ended) = with_run out (name_at text (task_at tasks i)) ended

-- a tick by its number, and its answer
abbrev pub with_ticked : List ℕ → List ℕ → List Task → ℕ → TickAnswer → List ℕ
with_ticked out text tasks n a =
    with_tick (((out ++ codes "tick ") ++ decimal n) ++ codes ": ") text tasks a ++ codes "\n"
