use Rattle.std.proofs.Common.{◌≡◌, [], List, ap, ◌∙◌}
use Rattle.std.proofs.lemmas.Result.{IfOk-weaker}
use Rattle.ap_value.specs.declared.symbol.Symbol.{Symbol}
use Rattle.ap_term.specs.declared.term.Term.{Term, Call}
use Rattle.ap_term.specs.Terms.{vars_after}
use Rattle.ap_world.proofs.Written.{vars_call}
use Rattle.ap_elim.specs.Naming.{vars_of}
use Rattle.ap_elim.proofs.naming.vars_of.Goals as goal

-- the variables of a call are those of its arguments
vars_of_call : (u : Term) (f : Symbol) (ts literals : List Term) → u ≡ Call f ts → ts ≡ literals → vars_after u [] ≡ vars_of literals
vars_of_call u f ts literals is same = ap (λ t. vars_after t []) is ∙ vars_call f ts [] ∙ ap vars_of same

pub returns : goal.returns
returns c =
    IfOk-weaker c.vars.result (λ xs. xs ≡ vars_after c.in_ok-whole.whole []) (λ xs. xs ≡ vars_of c.args.literals.now)
    (λ xs e. e ∙ vars_of_call c.in_ok-whole.whole c.not_symbol.result c.in_ok-copy_terms.field-0 c.args.literals.now c.in_ok-whole.ensures c.in_ok-copy_terms.ensures)
    c.vars.ensures
