use Rattle.std.proofs.Common.{ap, sym, ◌∙◌}
use Rattle.ap_speculate.specs.Sides.{owned, sided}
use Rattle.ap_speculate.proofs.Siding.{one_more}
use Rattle.ap_speculate.proofs.sides.deal_in.Goals as goal

pub loop-preserved : goal.loop-preserved
loop-preserved c =
    ap sided c.in_ok-push-2.ensures.items ∙
    (one_more c.loop.owns.items c.loop.row.items c.in_ok-own.own c.in_ok-own.thief c.loop.invariant c.in_ok-own.ensures.same ∙ ap owned (sym c.in_ok-push.ensures.items))
