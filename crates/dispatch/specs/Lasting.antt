-- The law of every run, as the calls promise it.
use Rattle.std.specs.Prelude.{◌≡◌, List, [], ◌∷◌, Ok, Err, Result}
use Rattle.resource.specs.Seen.{Seen}
use Rattle.analysis.specs.Floor.{Floor}
use Rattle.runs.specs.declared.fault.StartFault.{StartFault}
use Rattle.runs.specs.State.{State}
use Rattle.runs.specs.History.{Event}
use Rattle.runs.specs.Law.{Kept}
use Rattle.runs.specs.Run.{Run, Step}
use Rattle.dispatch.specs.declared.dispatcher.Dispatcher.{Dispatcher}
use Rattle.dispatch.specs.View.{plan_of, floor, state_of}

-- a start that is not refused begins a run
abbrev pub RunBegins : Floor → Result (Unit {0}) StartFault → State → Seen → Type 0
RunBegins f (Ok v) t y = Run f [] t y
RunBegins f (Err e) t y = Unit {0}

-- every run that led to this call goes on with it, and the law is kept: of this call and of every one before it
abbrev pub RunGoesOn : Floor → State → Seen → Event → State → Seen → Type 0
RunGoesOn f s x e t y = (h : List Event) → Run f h s x → Run f (e ∷ h) t y × Kept f (e ∷ h)

-- a call of a dispatcher over a resource: what the event leaves of the two
pub record GoesOn (d : Dispatcher) (x : Seen) (e : Event) (d' : Dispatcher) (y : Seen) : Type 0 where
  -- it runs the same plan
  pub plan : plan_of d' ≡ plan_of d
  -- the answer and the state after it are those of the rules
  pub step : Step (floor d) (state_of d) x e (state_of d') y
  -- the law of every run
  pub law : RunGoesOn (floor d) (state_of d) x e (state_of d') y
