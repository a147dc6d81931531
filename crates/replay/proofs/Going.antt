-- How a day goes on with one call.
use Rattle.std.proofs.Common.{◌≡◌, ℕ, List, ◌∷◌, Result, refl, sym, ap, ◌∙◌, subst, [], Ok}
use Rattle.std.specs.Prelude.{OnOk}
use Rattle.std.proofs.lemmas.Result.{on_ok_weaker}
use Rattle.resource.specs.Seen.{Seen}
use Rattle.taskset.specs.declared.task.Task.{Task}
use Rattle.taskset.specs.Table.{Table}
use Rattle.runs.specs.Law.{Kept}
use Rattle.analysis.specs.Floor.{Floor}
use Rattle.analysis.specs.PlanOf.{plan_floor}
use Rattle.analysis.specs.declared.plan.Plan.{Plan}
use Rattle.runs.specs.declared.answer.TickAnswer.{TickAnswer}
use Rattle.runs.specs.Run.{Run}
use Rattle.runs.specs.declared.fault.StartFault.{StartFault}
use Rattle.runs.specs.History.{Event, tick}
use Rattle.dispatch.specs.Lasting.{GoesOn, RunGoesOn}
use Rattle.dispatch.specs.View.{state_of}
use Rattle.textparts.specs.Spans.{Span}
use Rattle.daylines.specs.Lines.{with_odd, with_ticked}
use Rattle.replay.specs.declared.day.Day.{Day}
use Rattle.replay.specs.Asked.{Ask, also, asked_by, one_tick, no_call}
use Rattle.replay.specs.Told.{Told, next_tick, odd, ticked}
use Rattle.replay.specs.Day.{Dayed, DayTold}
use Rattle.replay.specs.Summary.{with_remarks}
use Rattle.replay.specs.Going.{Goes, Stands, Tells, tasks_of, told_of}

-- it stays where it is where nothing is asked
pub goes-nowhere : {R : Type 0} (seen : R → Seen) (d : Day R) → Goes seen (λ asks. asks) d d
goes-nowhere seen d = record { text = refl; draft = refl; plan = refl; list = refl; stands = λ front asks s. s }

-- first here, then there
pub goes-then : {R : Type 0} {seen : R → Seen} {first then : List Ask → List Ask} {d e f : Day R} → Goes seen first d e → Goes seen then e f → Goes seen (λ asks. then (first asks)) d f
goes-then {first = first} g h = record {
  text = h.text ∙ g.text;
  draft = h.draft ∙ g.draft;
  plan = h.plan ∙ g.plan;
  list = h.list ∙ g.list;
  stands = λ front asks s. h.stands front (first asks) (g.stands front asks s);
}

-- what was asked besides, said otherwise
pub goes-as : {R : Type 0} {seen : R → Seen} {more other : List Ask → List Ask} {d e : Day R} → ((asks : List Ask) → more asks ≡ other asks) → Goes seen more d e → Goes seen other d e
goes-as {seen = seen} {e = e} same g = record {
  text = g.text;
  draft = g.draft;
  plan = g.plan;
  list = g.list;
  stands = λ front asks s. subst (λ (l : List Ask). Stands seen front l e) (same asks) (g.stands front asks s);
}

-- what is told, by other names for what it is told of
told-as : {text text' : List ℕ} {tasks tasks' : List Task} {front out out' : List ℕ} {asks : List Ask} {h : List Event} {n n' : ℕ}
    → text' ≡ text → tasks' ≡ tasks → out' ≡ out → n' ≡ n → Told text tasks front asks out h n → Told text' tasks' front asks out' h n'
told-as p q r s t = rw (p, q, r, s) t

-- with an event that every run goes on with, once it is told
pub goes-by : {R : Type 0} {seen : R → Seen} {a : Ask} {v : Event} {d e : Day R} {out : List ℕ} {n : ℕ}
    → e ≡ record d { dispatcher = e.dispatcher; resource = e.resource; book = e.book; out = e.out }
    → e.out.ghost_name ≡ d.out.ghost_name
    → GoesOn d.dispatcher (seen d.resource.now) v e.dispatcher (seen e.resource.now)
    → told_of e ≡ out → e.book.ticks ≡ n
    → ((front : List ℕ) (asks : List Ask) (h : List Event) → Told d.text.now (tasks_of d) front asks (told_of d) h d.book.ticks → Told d.text.now (tasks_of d) front (a ∷ asks) out (v ∷ h) n)
    → Goes seen (also a) d e
goes-by {R = R} {seen = seen} {a = a} {v = v} {d = d} {e = e} rest list on bytes ticks tell =
    let start = state_of d.dispatcher in
    let end = state_of e.dispatcher in
    let x = seen d.resource.now in
    let y = seen e.resource.now in
    let text = ap (λ (f : Day R). f.text.now) rest in
    let draft = ap (λ (f : Day R). f.draft.now) rest in
    let its = ap (λ (f : Day R). f.plan.now) rest in
    record {
      text = text;
      draft = draft;
      plan = its;
      list = list;
      stands = λ front asks s.
          let law' = subst (λ (f : Floor). RunGoesOn f start x v end y) (ap plan_floor (s.plan ∙ sym its)) on.law in
          let next = law' s.history (subst (λ (p : Plan). Run (plan_floor p) s.history start x) (sym its) s.run) in
          record {
            plan = on.plan ∙ s.plan ∙ sym its;
            history = v ∷ s.history;
            told = told-as text (ap (λ (f : Day R). tasks_of f) rest) bytes ticks (tell front asks s.history s.told);
            run = next.0;
            kept = next.1;
          };
    }

-- at a tick, once it is told
pub goes-ticked : {R T E : Type 0} (seen : R → Seen) (d e : Day R) (r : Result T E) (a : TickAnswer)
    → e ≡ record d { dispatcher = e.dispatcher; resource = e.resource; book = e.book; out = e.out }
    → e.out.ghost_name ≡ d.out.ghost_name
    → GoesOn d.dispatcher (seen d.resource.now) (tick (seen d.resource.now) a) e.dispatcher (seen e.resource.now)
    → OnOk r (told_of e ≡ with_ticked (told_of d) d.text.now (tasks_of d) d.book.ticks a) → e.book.ticks ≡ next_tick d.book.ticks
    → OnOk r (Goes seen (also one_tick) d e)
goes-ticked seen d e r a rest list on bytes ticks =
    on_ok_weaker r (λ told. goes-by rest list on told ticks (λ front asks h t. ticked (seen d.resource.now) a t)) bytes

-- at a line that is no call, once it is told
pub goes-odd : {R : Type 0} {seen : R → Seen} {d e : Day R} (place : ℕ)
    → e ≡ record d { out = e.out } → e.out.ghost_name ≡ d.out.ghost_name → told_of e ≡ with_odd (told_of d) place
    → Goes seen (also (no_call place)) d e
goes-odd {R = R} {seen = seen} {d = d} {e = e} place rest list bytes =
    let text = ap (λ (f : Day R). f.text.now) rest in
    let tasks = ap (λ (f : Day R). tasks_of f) rest in
    let ticks = ap (λ (f : Day R). f.book.ticks) rest in
    record {
      text = text;
      draft = ap (λ (f : Day R). f.draft.now) rest;
      plan = ap (λ (f : Day R). f.plan.now) rest;
      list = list;
      stands = λ front asks s. record {
        plan = rw rest s.plan;
        history = s.history;
        told = told-as text tasks bytes ticks (odd place s.told);
        run = rw rest s.run;
        kept = rw rest s.kept;
      };
    }

-- a day by the answer to its start, where it was told
pub dayed : {r : Result (Unit {0}) StartFault} {text : List ℕ} {tasks : List Task} {p : Plan} {lines : List Span} {front out : List ℕ}
    → Ok tt ≡ r → DayTold text tasks p lines front out → Dayed r text tasks p lines front out
dayed {text = text} {tasks = tasks} {p = p} {lines = lines} {front = front} {out = out} e told =
    subst (λ (a : Result (Unit {0}) StartFault). Dayed a text tasks p lines front out) e told

-- all of a day that began to stand, went on with its lines, and had its remarks told
pub day-told : {R : Type 0} {seen : R → Seen} {lines : List Span} {front out : List ℕ} {d e f : Day R}
    → Stands seen front [] d → Goes seen (asked_by lines) d e
    → Tells e (with_remarks (told_of e) e.text.now (tasks_of e) e.plan.now e.book) f → out ≡ told_of f
    → DayTold d.text.now (tasks_of d) d.plan.now lines front out
day-told {R = R} {seen = seen} {lines = lines} {front = front} {d = d} {e = e} first goes tells its =
    let s = goes.stands front [] first in
    let tasks = ap (λ (t : Table). t.tasks) goes.draft in
    record {
      history = s.history;
      calls = told_of e;
      ticks = e.book.ticks;
      told = told-as (sym goes.text) (sym tasks) refl refl s.told;
      state = state_of e.dispatcher;
      seen = seen e.resource.now;
      run = subst (λ (p : Plan). Run (plan_floor p) s.history (state_of e.dispatcher) (seen e.resource.now)) goes.plan s.run;
      kept = subst (λ (p : Plan). Kept (plan_floor p) s.history) goes.plan s.kept;
      book = e.book;
      whole = rw (← goes.text, ← tasks, ← goes.plan) (its ∙ tells.told);
    }
