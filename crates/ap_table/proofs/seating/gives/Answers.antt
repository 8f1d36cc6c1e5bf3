use Rattle.std.proofs.Common.{◌≡◌, refl, arith}
use Rattle.ap_table.specs.declared.seats.AncestorSeat.{AncestorSeat}
use Rattle.ap_table.proofs.Finding.{one_here, one_past, none_all}
use Rattle.ap_table.proofs.seating.gives.Goals as goal

pub returns-then-is_at : goal.returns-then-is_at
returns-then-is_at c =
    ((λ t. one_here (λ (s : AncestorSeat). (s.family ≡ c.args.link.family) × (s.place ≡ c.args.link.place)) c.loop-i.i c.args.seats.now c.index-seats-i.result c.loop-i-test.true c.index-seats-i.is (c.is_at.ensures.0 c.if-is_at.true)), (λ a. refl))

pub loop-i-preserved : goal.loop-i-preserved
loop-i-preserved c =
    one_past (λ (s : AncestorSeat). (s.family ≡ c.args.link.family) × (s.place ≡ c.args.link.place)) c.loop-i.i c.args.seats.now c.index-seats-i.result c.loop-i-test.true c.index-seats-i.is
    (λ n. let t = c.is_at.ensures.1 n in let f = c.if-is_at.false in absurd (cc)) c.loop-i.invariant

pub returns : goal.returns
returns c = ((λ t. absurd (cc)), (λ a. absurd (none_all (λ (s : AncestorSeat). (s.family ≡ c.args.link.family) × (s.place ≡ c.args.link.place)) c.loop-i.i c.args.seats.now (omega (arith, c.loop-i-test.false)) c.loop-i.invariant a)))
