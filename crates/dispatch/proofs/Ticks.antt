-- A tick that scrubs and one that runs go on with every run.
use Rattle.std.proofs.Common.{◌≡◌, ℕ, Bool, sym, refl, subst}
use Rattle.resource.specs.declared.answer.Progress.{Progress}
use Rattle.resource.specs.Answers.{is_done}
use Rattle.resource.specs.Seen.{Seen, ScrubOn, RunOn}
use Rattle.runs.specs.declared.answer.TickAnswer.TheVariants.{Scrub, Run}
use Rattle.runs.specs.State.{Agree}
use Rattle.runs.specs.Calls.{scrubbed, served, last_tick}
use Rattle.runs.specs.History.{tick}
use Rattle.dispatch.specs.declared.dispatcher.Dispatcher.{Dispatcher}
use Rattle.dispatch.specs.declared.dispatcher.choice.Turn.TheVariants.{Scrub as ToScrub, Run as ToRun}
use Rattle.dispatch.specs.Lasting.{GoesOn}
use Rattle.dispatch.specs.Turn.{IsTurn}
use Rattle.dispatch.specs.View.{plan_of, floor, state_of, task_ways}
use Rattle.dispatch.proofs.Lasting.{goes-on}
use Rattle.dispatch.proofs.Plans.{task-figures}

module _ (d e : Dispatcher) (same : plan_of e ≡ plan_of d) (i : ℕ) where
  pub scrub-goes : (w : ℕ) (p : Progress) (done : Bool) → IsTurn (floor d) (state_of d) (ToScrub i w) → is_done p ≡ done
      → Agree (floor d) (state_of e) (scrubbed (floor d) i w done (state_of d)) → (x y : Seen) → ScrubOn x w p y → GoesOn d x (tick x (Scrub i w p)) e y
  scrub-goes w p done turn is later x y call = goes-on d x (tick x (Scrub i w p)) e y same (
    refl,
    (
      record {
        task = turn.0.0;
        listed = turn.0.1;
        way = turn.1.0;
        there = turn.1.1;
        later = subst (λ (b : Bool). Agree (floor d) (state_of e) (scrubbed (floor d) i w b (state_of d))) (sym is) later;
      },
      call,
    ),
  )

  pub run-goes : (ended : Bool) → IsTurn (floor d) (state_of d) (ToRun i) → ended ≡ last_tick (state_of d) i
      → Agree (floor d) (state_of e) (served (floor d) i (state_of d)) → (x y : Seen) → RunOn x i (task_ways (plan_of d) i) y → GoesOn d x (tick x (Run i ended)) e y
  run-goes ended turn ends later x y call = goes-on d x (tick x (Run i ended)) e y same (
    refl,
    record {
      task = turn.0.0;
      listed = turn.0.1;
      clean = turn.1;
      ends = ends;
      later = later;
      ways = task_ways (plan_of d) i;
      its = (task-figures (plan_of d) i turn.0.1).uses;
      call = call;
    },
  )
