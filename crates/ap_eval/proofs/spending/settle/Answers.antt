use Rattle.std.proofs.Common.{◌≡◌, ◌∙◌, None, ap, sym, rules}
use Rattle.ap_world.specs.Units.{wide, prim_value, settled}
use Rattle.ap_eval.proofs.spending.settle.Goals as goal

pub returns-in-None : goal.returns-in-None
returns-in-None c =
    let none : prim_value c.args.p c.args.values ≡ None = search rules in
    ap (λ o. settled c.args.call.now c.args.values o c.args.units) none ∙ ap (λ t. wide t c.args.values) (sym c.in_ok-call-in-None.ensures)
