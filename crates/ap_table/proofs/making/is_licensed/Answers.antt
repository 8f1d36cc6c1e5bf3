use Rattle.std.proofs.Common.{◌≤◌, sym, ◌∙◌, arith, subst}
use Rattle.ap_list.specs.Lists.{AnyOf}
use Rattle.ap_table.specs.Sound.{Names}
use Rattle.ap_table.proofs.Showing.{get_at, some_same}
use Rattle.ap_table.proofs.making.is_licensed.Goals as goal

pub returns-clause-tells : goal.returns-clause-tells
returns-clause-tells g c =
    let xs = c.args.nodes.now.items in
    let x = c.index-2.result.now in
    let m = c.index.result.now in
    let at = get_at xs c.args.i x (omega (arith, c.if-i-len.false, c.len.ensures)) c.index-2.ensures in
    let atm = get_at xs c.args.license.family m (omega (arith, c.if-f-len.false, c.len-2.ensures)) c.index.ensures in
    let le : m.word ≤ c.args.license.index = omega (arith, c.if-index-license.false) in (
      (λ t. ((x, at, subst (AnyOf (Names c.args.license)) c.as_slice.ensures (c.names.ensures.0 t)), (m, atm, le))),
      (λ y. c.names.ensures.1 (subst (AnyOf (Names c.args.license)) (sym c.as_slice.ensures) (subst (λ z. AnyOf (Names c.args.license) z.path) (some_same y.0.0 x (sym y.0.1 ∙ at)) y.0.2))),
    )
