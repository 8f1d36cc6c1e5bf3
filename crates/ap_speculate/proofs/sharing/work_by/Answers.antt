use Rattle.std.proofs.Common.{◌∙◌, length, sym, ap}
use Rattle.ap_speculate.proofs.Siding.{sided_long}
use Rattle.ap_speculate.proofs.sharing.work_by.Goals as goal

-- as many sides are in a row as there are deques
pub settle_left-requires : goal.settle_left-requires
settle_left-requires g c = c.len-many.ensures ∙ (c.args.deques.1.ok.0 ∙ (sym (sided_long c.args.deques.1.items) ∙ ap length c.requires.row))
