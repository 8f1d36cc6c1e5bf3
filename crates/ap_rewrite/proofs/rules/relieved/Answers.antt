use Rattle.std.proofs.Common.{◌≡◌, ◌∙◌, IfOk, IfSome, Option, refl, sym, subst}
use Rattle.ap_term.specs.declared.term.Term.{Term}
use Rattle.ap_term.specs.Metered.{Got}
use Rattle.ap_rewrite.specs.Answering.{where_applied, got_any, From}
use Rattle.ap_rewrite.proofs.Ruled.{taken, passed}
use Rattle.ap_rewrite.proofs.rules.relieved.Goals as goal

pub returns-then-not-branch-clause-is : goal.returns-then-not-branch-clause-is
returns-then-not-branch-clause-is g c = passed _ _ _ _ (sym c.in_ok-in_order_then.ensures ∙ c.if-not-branch.true) refl

pub returns-clause-is : goal.returns-clause-is
returns-clause-is g c =
    subst (λ (x : Got (Option Term)). IfOk c.right.result (λ o. got_any o c.right.new.steps.left ≡ x)) (taken _ _ _ _ (sym c.in_ok-in_order_then.ensures ∙ c.if-not-branch.false) refl)
    c.right.ensures.is

pub returns-clause-from : goal.returns-clause-from
returns-clause-from g c =
    subst (λ (u : Term). IfOk c.right.result (λ o. IfSome o (λ a. IfSome (where_applied a) (From c.args.l.now.r.now.w.now c.args.mode c.args.at.now.ctx.now u)))) c.requires.instance c.right.ensures.from
