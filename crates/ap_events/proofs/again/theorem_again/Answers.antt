use Rattle.std.proofs.Common.{sym, subst}
use Rattle.ap_events.specs.Books.{theorem_again}
use Rattle.ap_events.proofs.Doing.{IsBacked}
use Rattle.ap_events.proofs.again.theorem_again.Goals as goal

pub stated_again-requires-clause-backed : goal.stated_again-requires-clause-backed
stated_again-requires-clause-backed c = subst (λ o. IsBacked (theorem_again c.args.w.now c.args.enabled o) c.args.w.now) (sym c.in-Some.ensures) c.requires.backed
