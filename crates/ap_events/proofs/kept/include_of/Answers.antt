use Rattle.std.proofs.Common.{◌≡◌, Err, ap, sym, ◌∙◌, subst}
use Rattle.std.proofs.Common.{IfOk}
use Rattle.std.specs.Prelude.{codes}
use Rattle.ap_plain.specs.Ends.{Did}
use Rattle.ap_stated.specs.Texts.{said_line}
use Rattle.ap_events.specs.Books.{include_of}
use Rattle.ap_events.proofs.Including.{included_did, refused_did, not_clash}
use Rattle.ap_events.proofs.kept.include_of.Goals as goal

pub returns-in-Ok-clause-done : goal.returns-in-Ok-clause-done
returns-in-Ok-clause-done c =
    included_did c.args.w.now c.args.kept.now c.include_world.new.self c.args.name.now c.in_ok-title.title c.in_ok-text.text _
    (not_clash c.include_world.result _ c.in-Ok.field-0 c.in-Ok.is c.include_world.ensures.taken)
    c.in_ok-title.ensures (c.in_ok-text.ensures ∙ ap (λ t. said_line t (codes " admitted")) c.as_slice.ensures) c.in-Ok.ensures.ok c.without_drops.ensures

pub returns-in-Err-NameTaken-clause-done : goal.returns-in-Err-NameTaken-clause-done
returns-in-Err-NameTaken-clause-done c =
    subst (λ x. IfOk c.refused_alone.result (Did (include_of c.args.w.now c.args.name.now c.args.kept.now) c.args.w.now x)) (sym c.in-Err-NameTaken.ensures.err)
    (refused_did c.refused_alone.result c.args.w.now c.args.kept.now c.args.name.now c.as_slice-in-Err-NameTaken.result.now
    (c.include_world.ensures.taken.0 (c.in-Err-NameTaken.is ∙ ap Err c.in-Err-NameTaken.field-0-is)) (c.as_slice-in-Err-NameTaken.ensures ∙ c.in_ok-title.ensures) c.refused_alone.ensures.done)
