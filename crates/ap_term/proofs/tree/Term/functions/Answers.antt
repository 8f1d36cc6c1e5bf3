use Rattle.std.proofs.Common.{◌≡◌, refl, arith}
use Rattle.ap_term.proofs.KeptCounts.{functions_var, functions_quote, functions_call}
use Rattle.ap_term.proofs.tree.Term.functions.Goals as goal

pub returns-in-Var : goal.returns-in-Var
returns-in-Var c = rw (← c.self.view_is, c.in-Var.is, functions_var _) refl

pub returns-in-Quote : goal.returns-in-Quote
returns-in-Quote c = rw (← c.self.view_is, c.in-Quote.is, functions_quote _) refl

pub returns-in-Call : goal.returns-in-Call
returns-in-Call c = rw (← c.self.view_is, c.in-Call.is, functions_call _ _) (omega (arith, c.functions.ensures, c.saturating_add.ensures))
