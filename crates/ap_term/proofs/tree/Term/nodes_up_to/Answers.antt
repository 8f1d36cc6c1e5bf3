use Rattle.std.proofs.Common.{◌≡◌, refl, arith}
use Rattle.ap_term.proofs.KeptCounts.{size_var, size_quote, size_call}
use Rattle.ap_term.proofs.tree.Term.nodes_up_to.Goals as goal

pub returns-in-Var : goal.returns-in-Var
returns-in-Var c = rw (← c.self.view_is, c.in-Var.is, size_var _) refl

pub returns-in-Quote : goal.returns-in-Quote
returns-in-Quote c = rw (← c.self.view_is, c.in-Quote.is, size_quote _) c.constant_nodes.ensures

pub returns-in-Call : goal.returns-in-Call
returns-in-Call c = rw (← c.self.view_is, c.in-Call.is, size_call _ _) (omega (arith, c.nodes_up_to.ensures, c.saturating_add.ensures))
