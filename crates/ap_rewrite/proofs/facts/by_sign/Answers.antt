use Rattle.std.proofs.Common.{IfSome, sym, subst}
use Rattle.ap_rewrite.specs.Relieved.{RelievedFrom}
use Rattle.ap_rewrite.proofs.Negated.{not_here}
use Rattle.ap_rewrite.proofs.facts.by_sign.Goals as goal

pub returns-in_ok-o-in-Not-clause-shown : goal.returns-in_ok-o-in-Not-clause-shown
returns-in_ok-o-in-Not-clause-shown c =
    subst (λ u. IfSome c.in_ok-o-in-Not.o (RelievedFrom c.args.w.now c.args.ctx.now u c.args.start.now.0)) (sym (not_here c.args.h.now c.in-Not.a.now c.in-Not.ensures)) c.in_ok-o-in-Not.ensures.shown
