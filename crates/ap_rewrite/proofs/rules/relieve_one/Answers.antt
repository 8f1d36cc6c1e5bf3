use Rattle.std.proofs.Common.{IfSome, Option, Some, sym, ap, ◌∙◌, subst}
use Rattle.ap_term.specs.Matching.{Pairs, is_bound}
use Rattle.ap_rewrite.specs.declared.facts.Relieved.{Relieved}
use Rattle.ap_rewrite.specs.Relieved.{RelievedFrom}
use Rattle.ap_rewrite.specs.Answering.{pairs_of}
use Rattle.ap_rewrite.proofs.Ruled.{passed}
use Rattle.ap_rewrite.proofs.rules.relieve_one.Goals as goal

pub returns-clause-is : goal.returns-clause-is
returns-clause-is g c =
    passed _ _ _ _ (ap (λ (s : Pairs). is_bound s c.args.h.now) (sym c.as_slice.ensures) ∙ sym c.is_bound.ensures ∙ c.if-is_bound.false)
    (ap (λ (o : Option Pairs). Some (o, c.args.steps.now.left)) (ap pairs_of c.from_found.ensures ∙ c.in_ok-found.ensures.found))

pub returns-clause-shown : goal.returns-clause-shown
returns-clause-shown g c =
    subst (λ (o : Option Relieved). IfSome o (RelievedFrom c.args.l.now.r.now.w.now c.args.at.now.ctx.now c.args.h.now c.args.s.0)) (sym c.from_found.ensures) c.in_ok-found.ensures.shown
