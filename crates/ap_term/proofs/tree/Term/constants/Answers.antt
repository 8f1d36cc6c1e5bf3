use Rattle.std.proofs.Common.{◌≡◌, refl, arith}
use Rattle.ap_term.proofs.KeptCounts.{constants_var, constants_quote, constants_call}
use Rattle.ap_term.proofs.tree.Term.constants.Goals as goal

pub returns-in-Var : goal.returns-in-Var
returns-in-Var c = rw (← c.self.view_is, c.in-Var.is, constants_var _) refl

pub returns-in-Quote : goal.returns-in-Quote
returns-in-Quote c = rw (← c.self.view_is, c.in-Quote.is, constants_quote _) c.constant_nodes.ensures

pub returns-in-Call : goal.returns-in-Call
returns-in-Call c = rw (← c.self.view_is, c.in-Call.is, constants_call _ _) c.constants.ensures
