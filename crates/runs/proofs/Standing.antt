-- What stands after every run of an accepted floor.
use Rattle.std.proofs.Common.{ℕ, List, [], ◌∷◌}
use Rattle.resource.specs.Answers.{is_done}
use Rattle.resource.specs.Seen.{Seen}
use Rattle.analysis.specs.Floor.{Floor}
use Rattle.runs.specs.declared.answer.TickAnswer.TheVariants.{Rest, Scrub, Run as RunTask}
use Rattle.runs.specs.State.{State}
use Rattle.runs.specs.History.{Event, announce, finish, tick}
use Rattle.runs.specs.Run.{Proper, Step, Run, start, more}
use Rattle.runs.proofs.Shape.{Shape}
use Rattle.runs.proofs.Effects.{takes, refuses, closes, kept-as, of-announced, of-finished, idled, cleaned, serves}
use Rattle.runs.proofs.Keep.{shape-start, keep-untouched, keep_taken, keep-closed, keep-idled, keep-served, keep-cleaned}
use Rattle.runs.proofs.Worked.{worked-scrub, worked-run}
use Rattle.runs.proofs.Window.{Limits}
use Rattle.runs.proofs.Schedule.{Schedule, schedule-start, schedule-untouched, schedule-taken, schedule-closed, schedule-idled, schedule-worked}

-- the plain shape, and the windows of all tasks
pub record Standing (f : Floor) (bound : ℕ → ℕ) (lim : Limits f bound) (s : State) (x : Seen) : Type 0 where
  pub shape : Shape f s x
  pub schedule : Schedule f bound lim s x

module _ (f : Floor) (pr : Proper f) (bound : ℕ → ℕ) (lim : Limits f bound) where
  pub standing-step : (s : State) (x : Seen) (e : Event) (t : State) (y : Seen) → Step f s x e t y → Standing f bound lim s x → Standing f bound lim t y
  standing-step s x (announce i r) t y d g = elim (of-announced f s x i r t y d) [
    | takes e a ↦ record { shape = keep_taken f pr s x g.shape t y i a; schedule = schedule-taken f pr bound lim s x g.shape g.schedule t y i a }
    | refuses e c a ↦ record { shape = keep-untouched f pr s x g.shape t y a; schedule = schedule-untouched f pr bound lim s x g.shape g.schedule t y a }
  ]
  standing-step s x (finish i r) t y d g = elim (of-finished f s x i r t y d) [
    | closes e a ↦ record { shape = keep-closed f pr s x g.shape t y i a; schedule = schedule-closed f pr bound lim s x g.shape g.schedule t y i a }
    | kept-as e a ↦ record { shape = keep-untouched f pr s x g.shape t y a; schedule = schedule-untouched f pr bound lim s x g.shape g.schedule t y a }
  ]
  standing-step s x (tick z Rest) t y d g =
      let a = idled f s x t y d.1 in
      record { shape = keep-idled f pr s x g.shape t y a; schedule = schedule-idled f pr bound lim s x g.shape g.schedule t y a }
  standing-step s x (tick z (Scrub i w p)) t y d g =
      let a = cleaned f s x t y i w p d.1.0 d.1.1 in
      record {
        shape = keep-cleaned f pr s x g.shape t y i w p d.1.0 d.1.1;
        schedule = schedule-worked f pr bound lim s x g.shape g.schedule t y (worked-scrub f pr s x g.shape t y (is_done p) a);
      }
  standing-step s x (tick z (RunTask i e)) t y d g =
      let a = serves f s x t y g.shape i e d.1 in
      record {
        shape = keep-served f pr s x g.shape t y i e d.1;
        schedule = schedule-worked f pr bound lim s x g.shape g.schedule t y (worked-run f pr s x g.shape t y a);
      }

  pub standing : (h : List Event) (s : State) (x : Seen) → Run f h s x → Standing f bound lim s x
  standing [] s x (start o) = record { shape = shape-start f s x o; schedule = schedule-start f bound lim s x o }
  standing (e ∷ h) t y (more {s = s} {x = x} r d) = standing-step s x e t y d (standing h s x r)
