use Rattle.ap_table.proofs.Showing.{get_at, set_is}
use Rattle.ap_table.proofs.settling.set_told.Goals as goal

pub returns : goal.returns
returns g c =
    let xs = c.args.nodes.now.items in
    let x = c.index_mut-node.result.now in
    let at = get_at xs c.args.i x c.requires c.index_mut-node.ensures.value in
    set_is xs c.args.i x (λ y. record y { told = c.args.told }) at
