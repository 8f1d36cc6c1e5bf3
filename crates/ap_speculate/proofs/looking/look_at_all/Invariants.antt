use Rattle.ap_speculate.proofs.Pairs.{Upto}
use Rattle.ap_speculate.proofs.Seats.{Looked}
use Rattle.ap_speculate.proofs.looking.look_at_all.Given as goal

abbrev pub invariant-loop-seat : goal.invariant-loop-seat
invariant-loop-seat l = Upto Looked l.seat-index l.fn.seats l.seats
