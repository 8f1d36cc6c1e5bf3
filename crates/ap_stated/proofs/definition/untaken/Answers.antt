use Rattle.std.proofs.Common.{◌≡◌, Ok, IfOk, subst, ap, ◌∙◌}
use Rattle.ap_world.specs.World.{has_name}
use Rattle.ap_world.specs.declared.entry.Defun.{Defun}
use Rattle.ap_stated.specs.Prepared.{IsPrepared}
use Rattle.ap_stated.proofs.Standing.{is_definition}
use Rattle.ap_stated.proofs.definition.untaken.Goals as goal

pub returns-in-Ok-clause-stands : goal.returns-in-Ok-clause-stands
returns-in-Ok-clause-stands c =
    let W = c.args.w.now.entries in
    let given : c.translated.result ≡ Ok c.in-Ok.d = subst (λ a. IfOk a (λ v. c.translated.result ≡ Ok v)) c.in-Ok.is c.in_ok-d.ensures.same in
    is_definition c.with_measure.result c.args.w.now c.in-Ok.d
    (ap (has_name W) (subst (λ a. IfOk a (λ (d : Defun). d.name ≡ c.args.definition.now.name.now)) given c.translated.ensures.name) ∙ c.requires.free)
    (subst (λ a. IfOk a (IsPrepared W)) given c.translated.ensures.prepared)
    c.with_measure.ensures.same c.with_measure.ensures.ends
