use Rattle.std.proofs.Common.{◌≡◌, ◌∙◌, IfOk, Option, refl, sym, ap, subst}
use Rattle.ap_value.proofs.Equals.{both}
use Rattle.ap_term.specs.declared.term.Term.{Term}
use Rattle.ap_term.specs.Matching.{Pairs, matched}
use Rattle.ap_term.specs.Metered.{Got}
use Rattle.ap_rules.specs.Made.{rule_in}
use Rattle.ap_rewrite.specs.Rewriting.{apply}
use Rattle.ap_rewrite.specs.Answering.{setting_of, inner_of, seen_at, got_any}
use Rattle.ap_rewrite.proofs.Ruled.{taken, passed}
use Rattle.ap_rewrite.proofs.rules.try_rule.Goals as goal

pub returns-then-not-may_serve-clause-is : goal.returns-then-not-may_serve-clause-is
returns-then-not-may_serve-clause-is g c = passed _ _ _ _ (sym c.may_serve.ensures ∙ c.if-not-may_serve.true) refl

pub returns-in-None-clause-is : goal.returns-in-None-clause-is
returns-in-None-clause-is g c =
    taken _ _ _ _ (sym c.may_serve.ensures ∙ c.if-not-may_serve.false)
    (ap (λ (x : Option Pairs). apply (setting_of c.args.l.now.r.now) (inner_of c.args.l.now.r.now c.args.l.now.levels) c.args.mode (seen_at c.args.at.now) c.args.t.now (rule_in c.args.g.now) x c.args.steps.now.left)
    ((rw c.in-None.is at c.in_ok-one_way_match.ensures) ∙ ap (λ (s : Pairs). matched c.args.g.now.lhs c.args.t.now s) c.new.ensures))

pub apply-requires-clause-fits : goal.apply-requires-clause-fits
apply-requires-clause-fits g c = (both _ _ (sym c.may_serve.ensures ∙ c.if-not-may_serve.false)).1

pub apply-requires-clause-matched : goal.apply-requires-clause-matched
apply-requires-clause-matched g c = sym ((rw c.in-Some.is at c.in_ok-one_way_match.ensures) ∙ ap (λ (s : Pairs). matched c.args.g.now.lhs c.args.t.now s) c.new.ensures)

pub returns-clause-is : goal.returns-clause-is
returns-clause-is g c =
    subst (λ (x : Got (Option Term)). IfOk c.apply.result (λ o. got_any o c.apply.new.steps.left ≡ x))
    (taken _ _ _ _ (sym c.may_serve.ensures ∙ c.if-not-may_serve.false)
    (ap (λ (x : Option Pairs). apply (setting_of c.args.l.now.r.now) (inner_of c.args.l.now.r.now c.args.l.now.levels) c.args.mode (seen_at c.args.at.now) c.args.t.now (rule_in c.args.g.now) x c.args.steps.now.left)
    ((rw c.in-Some.is at c.in_ok-one_way_match.ensures) ∙ ap (λ (s : Pairs). matched c.args.g.now.lhs c.args.t.now s) c.new.ensures)))
    c.apply.ensures.is
