use Rattle.dispatch.proofs.dispatcher.Dispatcher.tick.Goals as goal

pub returns-in-Rest-clause-goes_on : goal.returns-in-Rest-clause-goes_on
returns-in-Rest-clause-goes_on g c = c.note_rest.ensures (g.R.Resource.meaning.seen c.args.resource.now)

pub returns-in-Run-clause-goes_on : goal.returns-in-Run-clause-goes_on
returns-in-Run-clause-goes_on g c = c.note_run-ended.ensures _ _ c.run_call.ensures.within
