use Rattle.ap_plain.specs.Events.{event_of}
use Rattle.ap_events.proofs.Joined.{did_by}
use Rattle.ap_events.proofs.first.plain.Goals as goal

pub returns-clause-done : goal.returns-clause-done
returns-clause-done g c =
    did_by c.work.result (event_of c.args.crew.now.limits.now c.args.w.now c.args.f.now) c.args.w.now c.work.new.w c.work.ensures.text c.work.ensures.next c.work.ensures.refused c.work.ensures.goals c.work.ensures.drops
