use Rattle.ap_tests_events.proofs.Redoing.{redone_made, redone_has}
use Rattle.ap_tests_events.proofs.again.redone.Goals as goal

pub event_again-requires-clause-made : goal.event_again-requires-clause-made
event_again-requires-clause-made c = redone_made c.args.limits.now c.args.form.now c.args.w c.args.from.now c.recall_sound.ensures c.requires.admitted

pub event_again-requires-clause-has : goal.event_again-requires-clause-has
event_again-requires-clause-has c = redone_has c.args.limits.now c.args.form.now c.args.w c.args.from.now c.requires.admitted
