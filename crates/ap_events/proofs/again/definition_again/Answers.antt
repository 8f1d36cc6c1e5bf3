use Rattle.std.proofs.Common.{sym, subst}
use Rattle.ap_events.specs.Books.{definition_again}
use Rattle.ap_events.proofs.Doing.{IsBacked}
use Rattle.ap_events.proofs.again.definition_again.Goals as goal

pub defined_again-requires-clause-backed : goal.defined_again-requires-clause-backed
defined_again-requires-clause-backed c = subst (λ o. IsBacked (definition_again c.args.w.now c.args.enabled o) c.args.w.now) (sym c.in-Some.ensures) c.requires.backed
