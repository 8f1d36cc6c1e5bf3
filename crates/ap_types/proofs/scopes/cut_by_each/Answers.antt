use Rattle.std.proofs.Common.{ap, ◌∙◌, sym}
use Rattle.ap_world.specs.Narrowing.{cut}
use Rattle.ap_types.specs.Scopes.{entered}
use Rattle.ap_types.proofs.Scoped.{cut_both}
use Rattle.ap_types.proofs.scopes.cut_by_each.Goals as goal

pub returns : goal.returns
returns c =
    c.cut-2.ensures ∙ ap (cut (entered c.args.scopes.now) c.args.t.now) c.cut.ensures ∙ sym (cut_both c.args.base.now (entered c.args.scopes.now) c.args.t.now c.args.mask)
