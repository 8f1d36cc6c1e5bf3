use Rattle.std.proofs.Common.{sym, subst}
use Rattle.ap_events.specs.Books.{headed_again, again_event}
use Rattle.ap_events.proofs.Doing.{IsBacked}
use Rattle.ap_events.proofs.again.again_event.Goals as goal

pub asked_again-requires-clause-backed : goal.asked_again-requires-clause-backed
unfolding again_event
asked_again-requires-clause-backed c = subst (λ o. IsBacked (headed_again c.args.earlier.now c.args.f.now c.args.w.now o) c.args.w.now) (sym c.in-Some.ensures) c.requires.backed
