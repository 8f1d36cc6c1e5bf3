use Rattle.std.proofs.Common.{◌<◌, ◌+◌, ◌≤◌, sym, ◌∙◌, arith, subst, length}
use Rattle.ap_table.proofs.Showing.{get_at, some_same, lt_is, lt_to}
use Rattle.ap_table.proofs.making.has_room.Goals as goal

pub returns : goal.returns
returns g c =
    let xs = c.args.nodes.now.items in
    let x = c.index.result.now in
    let at = get_at xs c.args.i x (omega (arith, c.if-i-len.false, c.len.ensures)) c.index.ensures in
    let few : length xs + c.args.count ≤ 1000000 = omega (arith, c.if-count-len.false, c.if-len-gt1000000.false, c.len-2.ensures, c.len-3.ensures) in (
      (λ t. (x, at, subst (λ k. k < 3) c.len-4.ensures (lt_is c.len-4.result 3 t), few)),
      (λ y. lt_to c.len-4.result 3 (subst (λ k. k < 3) (sym c.len-4.ensures) (subst (λ z. length z.path < 3) (some_same y.0 x (sym y.1 ∙ at)) y.2))),
    )
