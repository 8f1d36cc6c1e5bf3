use Rattle.ap_events.specs.Books.{worked_again}
use Rattle.ap_events.proofs.Joined.{functions_begin, left_begins}
use Rattle.ap_events.proofs.Sounding.{redone_step}
use Rattle.ap_events.proofs.nested.work_again.Goals as goal

pub returns-clause-ground : goal.returns-clause-ground
returns-clause-ground c =
    functions_begin c.args.w.now c.again_in.new.w
    (left_begins c.again_in.result (worked_again c.args.earlier.now c.args.w.now c.args.f.now) c.args.w.now c.again_in.new.w
    (redone_step c.args.earlier.now 400 c.args.f.now c.args.w.now).grows c.again_in.ensures.done c.again_in.ensures.error)
    c.requires.functions
