use Rattle.std.proofs.Common.{arith}
use Rattle.ap_speculate.specs.Jobs.{Stays, LookedOn, ReadBelow}
use Rattle.ap_speculate.proofs.Pairs.{both_as, upto_all, upto_next, upto_last, any_of_set}
use Rattle.ap_speculate.proofs.Seats.{Looked, stays_same, looked_stays, looked_on}
use Rattle.ap_speculate.proofs.looking.look_at_all.Goals as goal

pub loop-seat-preserved : goal.loop-seat-preserved
loop-seat-preserved c =
    upto_next Looked c.loop-seat.seat-index c.args.seats.now c.loop-seat.seats c.seat-item.result c.look_at.new.seat c.loop-seat.invariant (omega arith)
    (c.in_default.ensures.stays, c.in_default.ensures.looked)

pub returns-in-Some-clause-stays : goal.returns-in-Some-clause-stays
returns-in-Some-clause-stays c =
    upto_last Looked Stays looked_stays stays_same c.loop-seat.seat-index c.args.seats.now c.loop-seat.seats c.seat-item.result c.look_at.new.seat c.loop-seat.invariant (omega arith)
    c.in-Some.ensures.stays

pub returns-in-Some-clause-dropped : goal.returns-in-Some-clause-dropped
returns-in-Some-clause-dropped c =
    any_of_set (ReadBelow c.in-Some.license) c.loop-seat.seat-index c.loop-seat.seats c.look_at.new.seat (omega arith) c.in-Some.ensures.dropped

pub returns-clause-stays : goal.returns-clause-stays
returns-clause-stays c =
    both_as Looked Stays looked_stays c.args.seats.now c.loop-seat.seats (upto_all Looked c.loop-seat.seat-index c.args.seats.now c.loop-seat.seats (omega arith) c.loop-seat.invariant)

pub returns-clause-looked : goal.returns-clause-looked
returns-clause-looked c =
    both_as Looked (LookedOn 1) looked_on c.args.seats.now c.loop-seat.seats (upto_all Looked c.loop-seat.seat-index c.args.seats.now c.loop-seat.seats (omega arith) c.loop-seat.invariant)
