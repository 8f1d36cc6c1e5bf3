use Rattle.std.proofs.Common.{◌≡◌, refl, arith}
use Rattle.ap_term.proofs.KeptCounts.{variables_var, variables_quote, variables_call}
use Rattle.ap_term.proofs.tree.Term.has_variable.Goals as goal

pub returns-in-Var : goal.returns-in-Var
returns-in-Var c = rw (← c.self.view_is, c.in-Var.is, variables_var _) (λ h. omega arith, λ h. refl)

pub returns-in-Quote : goal.returns-in-Quote
returns-in-Quote c = rw (← c.self.view_is, c.in-Quote.is, variables_quote _) (λ h. absurd (cc), λ h. absurd (omega arith))

pub returns-in-Call : goal.returns-in-Call
returns-in-Call c = rw (← c.self.view_is, c.in-Call.is, variables_call _ _) c.has_variable.ensures
