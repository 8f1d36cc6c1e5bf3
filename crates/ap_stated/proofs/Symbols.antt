-- The text of a variable is its symbol's.
use Rattle.std.proofs.Common.{◌≡◌, ap, ◌∙◌}
use Rattle.ap_value.specs.declared.symbol.Symbol.{Symbol}
use Rattle.ap_term.specs.declared.term.Term.{Term, Var}
use Rattle.ap_term.specs.Printed.{term_step, symbol_text, term_text}
use Rattle.ap_term.proofs.Induction.{fold_var}

pub variable_text : (t : Term) (x : Symbol) → t ≡ Var x → term_text t ≡ symbol_text x
variable_text t x e = ap term_text e ∙ fold_var term_step x
