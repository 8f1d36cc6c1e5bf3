use Rattle.std.proofs.Common.{is_some, ap, ◌∙◌}
use Rattle.std.proofs.lemmas.Result.{on_ok_weaker}
use Rattle.ap_world.specs.World.{entry_of}
use Rattle.ap_world.proofs.Included.{new_there, new_pushed, new_free}
use Rattle.ap_world.proofs.including.add_new.Goals as goal

pub returns-then-has-clause-ok : goal.returns-then-has-clause-ok
returns-then-has-clause-ok c =
    new_there c.args.entries.now c.args.entry.now c.has.result (c.has.ensures ∙ ap (λ x. is_some (entry_of c.args.entries.now x)) c.name.ensures) c.if-has.true

pub push_copy-requires : goal.push_copy-requires
push_copy-requires c =
    new_free c.args.entries.now c.args.entry.now c.has.result c.requires (c.has.ensures ∙ ap (λ x. is_some (entry_of c.args.entries.now x)) c.name.ensures) c.if-has.false

pub returns-clause-ok : goal.returns-clause-ok
returns-clause-ok c =
    on_ok_weaker c.push_copy.result
    (new_pushed c.args.entries.now c.push_copy.new.self c.args.entry.now c.has.result
    (c.has.ensures ∙ ap (λ x. is_some (entry_of c.args.entries.now x)) c.name.ensures) c.if-has.false)
    c.push_copy.ensures.ok
