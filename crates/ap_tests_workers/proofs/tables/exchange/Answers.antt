use Rattle.ap_tests_workers.proofs.Seats.{held_less, held_more, ok_more}
use Rattle.ap_tests_workers.proofs.tables.exchange.Goals as goal

pub returns : goal.returns
returns c ws held =
    let one = held_less ws c.args.jobs.now c.last.new.jobs c.in_ok-b.b c.in_ok-b.ensures held in
    let two = held_less ws c.last.new.jobs c.last-2.new.jobs c.in_ok-a.a c.in_ok-a.ensures one.0 in
    let both = c.swap.ensures ws two.1 one.1 in
    let first = held_more ws c.last-2.new.jobs c.push.new.self c.swap.new.a c.in_ok-push.ensures.ok two.0 both.0 in
    ok_more c.push-2.result ws c.push.new.self c.push-2.new.self c.swap.new.b c.push-2.ensures.ok first both.1
