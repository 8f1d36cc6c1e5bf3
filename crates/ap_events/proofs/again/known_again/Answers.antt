use Rattle.std.proofs.Common.{sym, subst}
use Rattle.ap_events.specs.Books.{known_again}
use Rattle.ap_events.proofs.Doing.{IsBacked}
use Rattle.ap_events.proofs.again.known_again.Goals as goal

pub kind_again-requires-clause-backed : goal.kind_again-requires-clause-backed
kind_again-requires-clause-backed c = subst (λ k. IsBacked (known_again c.args.w.now c.args.f.now c.args.head.now k) c.args.w.now) (sym c.in-Some.ensures) c.requires.backed
