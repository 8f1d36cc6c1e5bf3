use Rattle.std.proofs.Common.{is_some, ap, ◌∙◌}
use Rattle.ap_world.specs.World.{theorem_of}
use Rattle.ap_kernel.proofs.ApplyingStands.{copied_there, part_there}
use Rattle.ap_kernel.proofs.applying.has_part.Goals as goal

pub returns : goal.returns
returns c =
    c.is_some.ensures ∙ copied_there c.conjunct_of.result ∙ ap (λ o. is_some o) c.conjunct_of.ensures
    ∙ part_there c.args.name.now c.args.part (theorem_of c.args.w.now.entries c.args.name.now)
