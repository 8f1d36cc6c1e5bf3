use Rattle.std.proofs.Common.{◌≡◌, sym, ◌∙◌}
use Rattle.ap_stated.specs.Shapes.{as_defined}
use Rattle.ap_events.proofs.Restating.{definition_backed, definition_did, functions_there, stated_there}
use Rattle.ap_events.proofs.again.defined_again.Goals as goal

pub put_again-requires-clause-functions : goal.put_again-requires-clause-functions
put_again-requires-clause-functions c = functions_there c.args.w.now c.proposed_definition.new.w c.proposed_definition.ensures.same c.requires.functions

pub put_again-requires-clause-stated : goal.put_again-requires-clause-stated
put_again-requires-clause-stated c = stated_there c.args.w.now c.proposed_definition.new.w c.in_ok-stated.stated c.proposed_definition.ensures.same c.in_ok-stated.ensures.stands

pub put_again-requires-clause-backed : goal.put_again-requires-clause-backed
put_again-requires-clause-backed c =
    definition_backed c.args.w.now c.proposed_definition.new.w c.args.enabled (as_defined c.args.definition.now) c.as_slice.result.now c.in_ok-stated.stated c.proposed_definition.ensures.same
    (c.as_slice.ensures ∙ c.in_ok-title.ensures) c.in_ok-stated.ensures.made c.requires.backed

pub returns-clause-done : goal.returns-clause-done
returns-clause-done c =
    definition_did c.args.w.now c.proposed_definition.new.w c.args.enabled (as_defined c.args.definition.now) c.as_slice.result.now c.in_ok-stated.stated c.proposed_definition.ensures.same
    (c.as_slice.ensures ∙ c.in_ok-title.ensures) c.in_ok-stated.ensures.made c.put_again.result c.put_again.new.w c.put_again.ensures.done
