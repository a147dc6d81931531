-- The call that a tick makes on the resource.
use Rattle.std.specs.Prelude.{◌≡◌, ℕ}
use Rattle.resource.specs.Meaning.{Meaning, Ran, Scrubbed}
use Rattle.analysis.specs.declared.plan.Plan.{Plan}
use Rattle.runs.specs.declared.answer.TickAnswer.{TickAnswer}
use Rattle.runs.specs.declared.answer.TickAnswer.TheVariants.{Rest, Scrub, Run}
use Rattle.dispatch.specs.View.{task_ways}

-- By the answer: none, one scrub call on the way, or one run call of the task on all its ways; what it leaves is what the
-- implementation says of such a call.
abbrev pub Called : {S : Type 0} → Meaning S → Plan → S → ℕ → TickAnswer → S → Type 0
Called m p r address Rest t = t ≡ r
Called m p r address (Scrub i w progress) t = Scrubbed m r w progress t
Called m p r address (Run i ended) t = Ran m r i (task_ways p i) address t
