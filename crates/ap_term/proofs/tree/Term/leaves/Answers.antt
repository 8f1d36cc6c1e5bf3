use Rattle.std.proofs.Common.{◌≡◌, refl}
use Rattle.ap_term.proofs.KeptCounts.{leaves_var, leaves_quote}
use Rattle.ap_term.proofs.tree.Term.leaves.Goals as goal

pub returns-in-Var : goal.returns-in-Var
returns-in-Var c = rw (← c.self.view_is, c.in-Var.is, leaves_var _) refl

pub returns-in-Quote : goal.returns-in-Quote
returns-in-Quote c = rw (← c.self.view_is, c.in-Quote.is, leaves_quote _) refl

pub returns-in-Call : goal.returns-in-Call
returns-in-Call c = rw (← c.self.view_is, c.in-Call.is) c.leaves_under.ensures
