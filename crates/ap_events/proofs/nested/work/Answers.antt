use Rattle.ap_events.specs.Books.{worked}
use Rattle.ap_events.proofs.Joined.{functions_begin, left_begins}
use Rattle.ap_events.proofs.Sounding.{worked_step}
use Rattle.ap_events.proofs.nested.work.Goals as goal

pub returns-clause-ground : goal.returns-clause-ground
returns-clause-ground g c =
    functions_begin c.args.w.now c.first_in.new.w
    (left_begins c.first_in.result (worked c.args.limits.now c.args.earlier.now c.args.w.now c.args.f.now) c.args.w.now c.first_in.new.w
    (worked_step c.args.limits.now c.args.earlier.now 400 c.args.f.now c.args.w.now).grows c.first_in.ensures.done c.first_in.ensures.error)
    c.requires
