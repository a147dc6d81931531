use Rattle.std.proofs.Common.{ℕ, [], Result, Ok, Err, sym, subst, rules}
use Rattle.std.proofs.lemmas.Result.{on_ok_weaker}
use Rattle.textparts.specs.View.{to_come}
use Rattle.runs.specs.declared.fault.StartFault.{StartFault}
use Rattle.replay.specs.Day.{Dayed}
use Rattle.replay.specs.Told.{Told, begun}
use Rattle.replay.specs.Going.{Stands}
use Rattle.replay.proofs.Going.{day-told, dayed}
use Rattle.replay.proofs.day.plan_day.Goals as goal

pub returns-in-Err : goal.returns-in-Err
returns-in-Err g c = on_ok_weaker c.refused.result (λ told. record { verdict = Err c.in-Err.fault; room = _; right = c.in-Err.ensures.verdict; told = told }) c.refused.ensures

pub returns-in-Err-start : goal.returns-in-Err-start
returns-in-Err-start g c =
    let m = g.R.Resource.meaning in
    let p = c.analyse.new.plan in
    let judged = c.in_default.ensures in
    let x = m.seen c.args.resource.now in
    on_ok_weaker c.refused-in-Err-start.result (λ told. record {
      verdict = Ok tt;
      room = _;
      right = judged.verdict;
      told = record {
        plan = p;
        right = judged.later;
        day = subst (λ (r : Result (Unit {0}) StartFault). Dayed r c.args.text.now c.args.draft.now.tasks p (to_come c.args.reader.now) c.args.out.now.items c.refused-in-Err-start.new.out.items) c.in-Err-start.ensures.answer told;
      };
    }) c.refused-in-Err-start.ensures

pub returns : goal.returns
returns g c =
    let m = g.R.Resource.meaning in
    let p = c.analyse.new.plan in
    let judged = c.in_default.ensures in
    let started = c.in_default-start.ensures in
    let text = c.args.text.now in
    let ts = c.args.draft.now.tasks in
    let front = c.args.out.now.items in
    let lines = to_come c.args.reader.now in
    let first : Stands m.seen front [] _ = record {
      plan = started.later.plan;
      history = [];
      told = subst (λ (n : ℕ). Told text ts front [] front [] n) (sym c.new.ensures) begun;
      run = started.law;
      kept = tt;
    } in
    on_ok_weaker c.remarks.result (λ tells. record {
      verdict = Ok tt;
      room = _;
      right = judged.verdict;
      told = record {
        plan = p;
        right = judged.later;
        day = dayed started.answer (day-told first c.in_ok-calls.ensures tells (search rules));
      };
    }) c.remarks.ensures
