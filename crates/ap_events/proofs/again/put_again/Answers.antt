use Rattle.std.proofs.Common.{subst}
use Rattle.ap_events.specs.Books.{put_again}
use Rattle.ap_events.proofs.Doing.{IsBacked}
use Rattle.ap_events.proofs.again.put_again.Goals as goal

pub make_again-requires-clause-backed : goal.make_again-requires-clause-backed
make_again-requires-clause-backed c = subst (λ a. IsBacked (put_again c.args.w.now c.args.title.now c.args.enabled a) c.args.w.now) c.in-Ok.is c.requires.backed
