-- A run worked by hand, over a resource whose ways cost one scrub call each.
use Rattle.std.specs.Prelude.{◌≡◌, ℕ, zero, suc, ◌≤◌, true, false, cond, List, [], ◌∷◌, Ok, Err, Result, nat_lt}
use Rattle.refusal.specs.Outcome.{after, answered}
use Rattle.resource.specs.declared.answer.Progress.TheVariants.{Done}
use Rattle.resource.specs.Seen.{Seen}
use Rattle.taskset.specs.declared.task.Kind.TheVariants.{Split}
use Rattle.taskset.specs.Table.{with_pair}
use Rattle.analysis.specs.Floor.{Floor}
use Rattle.analysis.specs.FloorOf.{floor_of}
use Rattle.runs.specs.declared.answer.TickAnswer.{TickAnswer}
use Rattle.runs.specs.declared.answer.TickAnswer.TheVariants.{Rest, Scrub, Run}
use Rattle.runs.specs.declared.fault.CallFault.{CallFault}
use Rattle.runs.specs.declared.fault.CallFault.TheVariants.{TooEarly}
use Rattle.runs.specs.Calls.{Ticked, announcing, last_tick, rested, scrubbed, served}
use Rattle.runs.specs.State.{Agree, State, chosen, fresh, scrub_way}
use Rattle.worked.specs.Tables.{free_table, task}

-- what a tick answers where every scrub is done with its first call
unfoldable pub tick_answer : Floor → State → TickAnswer
tick_answer f s =
    cond (nat_lt (chosen f s) f.tasks)
    (cond (nat_lt (scrub_way f s (chosen f s)) f.ways) (Scrub (chosen f s) (scrub_way f s (chosen f s)) Done) (Run (chosen f s) (last_tick s (chosen f s))))
    Rest

-- and the state that it leaves
unfoldable pub tick_state : Floor → State → State
tick_state f s =
    cond (nat_lt (chosen f s) f.tasks)
    (cond (nat_lt (scrub_way f s (chosen f s)) f.ways) (scrubbed f (chosen f s) (scrub_way f s (chosen f s)) true s) (served f (chosen f s) s))
    (rested f s)

-- the answers of n ticks in a row
abbrev pub ticking : ℕ → Floor → State → List TickAnswer
ticking zero f s = []
ticking (suc n) f s = tick_answer f s ∷ ticking n f (tick_state f s)

-- and the state after them
abbrev pub ticked : ℕ → Floor → State → State
ticked zero f s = s
ticked (suc n) f s = ticked n f (tick_state f s)

-- the state after an announcement
abbrev pub announced : Floor → ℕ → State → State
announced f i s = after s (announcing f i s)

-- what an announcement answers
abbrev pub announcement : Floor → ℕ → State → Result (Unit {0}) CallFault
announcement f i s = answered tt (announcing f i s)

-- two split tasks on way 0 of the row banks, where task 0 must not run on a trace of task 1
abbrev pub banks_floor : Floor
banks_floor = floor_of (with_pair (free_table (task 10 1 10 0 Split ∷ task 20 3 20 0 Split ∷ [])) 1 0) (λ w. cond (nat_lt w 8) 1 0)

-- no way costs more than one call, as on the row banks
abbrev pub OneCall : Seen → Type 0
OneCall x = (w : ℕ) → x.cost w ≤ 1

-- announce 1, tick, announce 0, five ticks; and announcements of 0 nine and ten ticks after its last
pub record WorkedRun : Type 0 where
  -- over any resource whose ways cost at most one call each, a tick does what is computed here
  pub every : (f : Floor) (s : State) (x : Seen) (a : TickAnswer) (t : State) (y : Seen) → OneCall x → Ticked f s x a t y → (a ≡ tick_answer f s) × Agree f t (tick_state f s)
  pub one_taken : announcement banks_floor 1 (fresh banks_floor) ≡ Ok tt
  pub one_runs : ticking 1 banks_floor (announced banks_floor 1 (fresh banks_floor)) ≡ Run 1 false ∷ []
  pub zero_taken : announcement banks_floor 0 (ticked 1 banks_floor (announced banks_floor 1 (fresh banks_floor))) ≡ Ok tt
  pub five : ticking 5 banks_floor (announced banks_floor 0 (ticked 1 banks_floor (announced banks_floor 1 (fresh banks_floor)))) ≡ Scrub 0 0 Done ∷ Run 0 true ∷ Run 1 false ∷ Run 1 true ∷ Rest ∷ []
  pub nine : announcement banks_floor 0 (ticked 9 banks_floor (announced banks_floor 0 (fresh banks_floor))) ≡ Err TooEarly
  pub ten : announcement banks_floor 0 (ticked 10 banks_floor (announced banks_floor 0 (fresh banks_floor))) ≡ Ok tt
