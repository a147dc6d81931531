use Rattle.std.proofs.Common.{◌≡◌, List, sym, refl, ap, ◌∙◌}
use Rattle.textparts.specs.Spans.{Span}
use Rattle.textparts.specs.Tokens.{pieces}
use Rattle.textparts.specs.View.{line_of}
use Rattle.daycalls.specs.Calls.{call_in}
use Rattle.daycalls.specs.View.{call_of}
use Rattle.replay.specs.Asked.{asked, asked_by}
use Rattle.replay.proofs.Going.{goes-nowhere, goes-then, goes-as}
use Rattle.replay.proofs.day.Day.calls.Goals as goal

pub loop-line-init : goal.loop-line-init
loop-line-init g c = (λ asks. asks, λ asks. refl, goes-nowhere _ _)

pub loop-line-preserved : goal.loop-line-preserved
loop-line-preserved g c =
    let (more, same, so_far) = c.loop-line.invariant in
    let line = line_of c.in-Some.line in
    let p = c.part-place.result.place in
    let k = call_of c.call_of-asked.result in
    let here : p ≡ line.place = ap (λ (s : Span). s.place) c.part-place.ensures.value in
    let called : k ≡ call_in (pieces line.place line.bytes) = c.call_of-asked.ensures ∙ ap call_in c.in-Some.ensures.fresh in
    (λ asks. asked p k (more asks), λ asks. simp (here, called) (sym (ap (λ (ls : List Span). asked_by ls (more asks)) c.in-Some.ensures.steps) ∙ same asks), goes-then so_far c.in_ok-call.ensures)

pub returns : goal.returns
returns g c =
    let i = c.loop-line.invariant in
    goes-as (λ asks. sym (ap (λ (ls : List Span). asked_by ls (i.0 asks)) c.in_default.ensures.steps) ∙ i.1 asks) i.2
