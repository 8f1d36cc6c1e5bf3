use Rattle.std.proofs.Common.{true, ◌∙◌, sym, ap}
use Rattle.ap_world.specs.Shapes.{is_constant}
use Rattle.ap_rewrite.specs.Relieving.{if_so}
use Rattle.ap_rewrite.proofs.rules.where_true.Goals as goal

pub to_true-requires-clause-constant : goal.to_true-requires-clause-constant
to_true-requires-clause-constant c = ap (is_constant true) (sym c.rhs.ensures) ∙ sym c.is_constant.ensures ∙ c.if-not-is_constant.false

pub returns-then-not-is_constant-clause-is : goal.returns-then-not-is_constant-clause-is
returns-then-not-is_constant-clause-is c =
    ap (λ b. if_so b c.args.s.0) (sym (ap (is_constant true) (sym c.rhs.ensures) ∙ sym c.is_constant.ensures ∙ c.if-not-is_constant.true))

pub returns-clause-is : goal.returns-clause-is
returns-clause-is c = ap (λ b. if_so b c.args.s.0) (sym (ap (is_constant true) (sym c.rhs.ensures) ∙ sym c.is_constant.ensures ∙ c.if-not-is_constant.false))
