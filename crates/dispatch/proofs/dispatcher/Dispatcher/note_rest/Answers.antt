use Rattle.std.proofs.Common.{refl}
use Rattle.runs.specs.declared.answer.TickAnswer.TheVariants.{Rest}
use Rattle.runs.specs.Calls.{rested}
use Rattle.runs.specs.History.{tick}
use Rattle.dispatch.specs.View.{state_of}
use Rattle.dispatch.proofs.Lasting.{goes-on}
use Rattle.dispatch.proofs.dispatcher.Dispatcher.note_rest.Goals as goal

pub returns : goal.returns
unfolding state_of rested
returns c x =
    let older = c.grow_ages.ensures in
    goes-on c.args.self.now x (tick x Rest) _ x refl (
      refl,
      record {
        nobody = c.requires;
        later = record { age = older.age; left = λ k l. older.left k; holder = refl; under = refl; ran = refl; recorded = λ w k l m. refl };
        untouched = refl;
      },
    )
