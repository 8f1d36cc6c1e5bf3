use Rattle.std.proofs.Common.{◌≡◌, sym, ◌∙◌}
use Rattle.ap_stated.specs.Shapes.{as_stated}
use Rattle.ap_events.proofs.Depths.{did_is}
use Rattle.ap_events.proofs.Doing.{backed_at}
use Rattle.ap_events.proofs.Restating.{theorem_is}
use Rattle.ap_events.proofs.again.stated_again.Goals as goal

pub put_again-requires-clause-backed : goal.put_again-requires-clause-backed
put_again-requires-clause-backed c =
    backed_at _ _ c.args.w.now
    (theorem_is c.args.w.now c.args.enabled (as_stated c.args.statement.now) c.as_slice.result.now c.in_ok-stated.stated (c.as_slice.ensures ∙ c.in_ok-title.ensures) c.in_ok-stated.ensures.made)
    c.requires.backed

pub returns-clause-done : goal.returns-clause-done
returns-clause-done c =
    did_is c.put_again.result _ _ c.args.w.now c.put_again.new.w
    (sym (theorem_is c.args.w.now c.args.enabled (as_stated c.args.statement.now) c.as_slice.result.now c.in_ok-stated.stated (c.as_slice.ensures ∙ c.in_ok-title.ensures) c.in_ok-stated.ensures.made))
    c.put_again.ensures.done
