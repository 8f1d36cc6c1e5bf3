use Rattle.std.proofs.Common.{refl, arith}
use Rattle.ap_table.specs.Seated.{Gives}
use Rattle.ap_table.proofs.Finding.{each_past, each_all, each_there}
use Rattle.ap_table.proofs.seating.give_all.Goals as goal

pub returns-then-not-gives : goal.returns-then-not-gives
returns-then-not-gives c =
    ((λ t. absurd (cc)), (λ a. let t = c.gives.ensures.1 (each_there (Gives c.args.seats.now) c.loop-i.i c.args.path.now c.link_at.result c.link_at.ensures a.1) in let f = c.if-not-gives.true in absurd (cc)))

pub loop-i-preserved : goal.loop-i-preserved
loop-i-preserved c = each_past (Gives c.args.seats.now) c.loop-i.i c.args.path.now c.link_at.result c.link_at.ensures (c.gives.ensures.0 c.if-not-gives.false) c.loop-i.invariant

pub returns : goal.returns
returns c = ((λ t. (omega arith, each_all (Gives c.args.seats.now) c.loop-i.i c.args.path.now (omega (arith, c.loop-i-test.false)) c.loop-i.invariant)), (λ a. refl))
