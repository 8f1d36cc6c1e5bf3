use Rattle.std.proofs.Common.{◌≡◌, sym}
use Rattle.ap_term.proofs.KeptCounts.{has_if_var, has_if_quote}
use Rattle.ap_term.proofs.tree.Term.has_if.Goals as goal

pub returns-in-Var : goal.returns-in-Var
returns-in-Var c = rw (← c.self.view_is, c.in-Var.is) (sym (has_if_var _))

pub returns-in-Quote : goal.returns-in-Quote
returns-in-Quote c = rw (← c.self.view_is, c.in-Quote.is) (sym (has_if_quote _))

pub returns-in-Call : goal.returns-in-Call
returns-in-Call c = rw (← c.self.view_is, c.in-Call.is) c.has_if_under.ensures
