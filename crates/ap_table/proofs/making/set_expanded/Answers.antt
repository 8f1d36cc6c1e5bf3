use Rattle.std.proofs.Common.{Some}
use Rattle.ap_table.specs.Sums.{nothing_told}
use Rattle.ap_table.specs.declared.stored.Stage.TheVariants as stage
use Rattle.ap_word.specs.Stops.{NONE}
use Rattle.ap_table.proofs.Showing.{get_at, set_is}
use Rattle.ap_table.proofs.making.set_expanded.Goals as goal

pub returns : goal.returns
returns g c =
    let xs = c.args.nodes.now.items in
    let x = c.index_mut-node.result.now in
    let at = get_at xs c.args.i x c.requires c.index_mut-node.ensures.value in
    set_is xs c.args.i x (λ y. record y { own = Some c.args.own; first = c.args.first; count = c.args.count; stage = stage.Expanded; word = NONE; told = nothing_told }) at
