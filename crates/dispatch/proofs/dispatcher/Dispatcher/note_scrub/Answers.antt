use Rattle.std.proofs.Common.{◌<◌, length, true, false, sym, refl, ap, arith}
use Rattle.std.proofs.Math.Bool.{and-true}
use Rattle.resource.specs.Answers.{is_done}
use Rattle.runs.specs.Calls.{scrubbed}
use Rattle.dispatch.specs.View.{state_of, record_at}
use Rattle.dispatch.proofs.Later.{record-emptied}
use Rattle.dispatch.proofs.Plans.{plan-ways}
use Rattle.dispatch.proofs.Ticks.{scrub-goes}
use Rattle.dispatch.proofs.dispatcher.Dispatcher.note_scrub.Goals as goal

pub returns-in-Done : goal.returns-in-Done
unfolding state_of scrubbed
returns-in-Done c =
    let d = c.args.self.now in
    let older = c.grow_ages.ensures in
    let there : c.args.way < length d.records = omega (arith, c.requires.1.1, plan-ways d.plan) in
    scrub-goes d _ refl c.args.task c.args.way c.args.progress true c.requires (ap is_done c.in-Done.is) (record {
      age = older.age;
      left = λ k l. older.left k;
      holder = refl;
      under = refl;
      ran = refl;
      recorded = λ w k l m. record-emptied d.records c.args.way c.empty.result there c.empty.ensures.members w k;
    })

pub returns-in-UnderWay : goal.returns-in-UnderWay
unfolding state_of scrubbed
returns-in-UnderWay c =
    let d = c.args.self.now in
    let older = c.grow_ages.ensures in
    scrub-goes d _ refl c.args.task c.args.way c.args.progress false c.requires (ap is_done c.in-UnderWay.is) (record {
      age = older.age;
      left = λ k l. older.left k;
      holder = refl;
      under = refl;
      ran = refl;
      recorded = λ w k l m. sym (and-true (record_at d.records w k));
    })
