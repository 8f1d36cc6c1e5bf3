use Rattle.ap_plain.specs.Events.{event_of}
use Rattle.ap_plain.proofs.Growing.{event_grows, functions_kept}
use Rattle.ap_plain.proofs.heads.work.Goals as goal

pub returns-clause-ground : goal.returns-clause-ground
returns-clause-ground g c =
    functions_kept c.event_of.result (event_of c.args.limits.now c.args.w.now c.args.f.now) c.args.w.now c.event_of.new.w c.requires (event_grows c.args.limits.now c.args.w.now c.args.f.now) c.event_of.ensures.done c.event_of.ensures.error
