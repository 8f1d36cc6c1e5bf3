use Rattle.std.proofs.Common.{sym, ap, ◌∙◌}
use Rattle.ap_value.specs.Values.{val_of}
use Rattle.ap_term.specs.declared.term.Term.{Quote}
use Rattle.ap_kernel.specs.Equations.{truth_constant}
use Rattle.ap_rewrite.proofs.Negated.{t_is, nil_is}
use Rattle.ap_rewrite.proofs.shaping.negation_of.Goals as goal

pub returns-then-empty-clause-value : goal.returns-then-empty-clause-value
returns-then-empty-clause-value c = ap val_of c.t_value.ensures ∙ t_is c.args.v.now (sym c.is_nil-empty.ensures ∙ c.if-empty.true)

pub returns-then-empty-clause-constant : goal.returns-then-empty-clause-constant
returns-then-empty-clause-constant c = ap Quote c.t_value.ensures ∙ ap truth_constant (sym (sym c.is_nil-empty.ensures ∙ c.if-empty.true))

pub returns-clause-value : goal.returns-clause-value
returns-clause-value c = ap val_of c.nil_value.ensures ∙ nil_is c.args.v.now (sym c.is_nil-empty.ensures ∙ c.if-empty.false)

pub returns-clause-constant : goal.returns-clause-constant
returns-clause-constant c = ap Quote c.nil_value.ensures ∙ ap truth_constant (sym (sym c.is_nil-empty.ensures ∙ c.if-empty.false))
