use Rattle.std.proofs.Common.{Some, ap, ◌∙◌, rules}
use Rattle.ap_world.specs.World.{function_of}
use Rattle.ap_kernel.proofs.Certificates.{certificate_derived}
use Rattle.ap_kernel.proofs.Derived.{stands_by}
use Rattle.ap_kernel.proofs.LinearStands.{refuted_stands}
use Rattle.ap_kernel.proofs.linear.by_certificate.Goals as goal

pub returns-clause-stands : goal.returns-clause-stands
returns-clause-stands c =
    stands_by c.args.w.now c.in_ok-answer.answer _ _ (search rules) (c.in_ok-answer.ensures.why ∙ ap Some (search rules))
    (certificate_derived c.args.w.now c.args.ctx.now c.args.t.now c.args.sign c.args.polys c.args.why c.args.by c.requires.facts c.requires.term c.requires.comparison
    c.requires.reasons c.requires.certificate)
    (refuted_stands (function_of c.args.w.now.entries) c.recall_sound.ensures.total c.args.ctx.now c.requires.facts c.args.t.now c.args.sign c.requires.term c.requires.comparison
    c.args.polys c.args.by c.requires.polys c.requires.certificate)
