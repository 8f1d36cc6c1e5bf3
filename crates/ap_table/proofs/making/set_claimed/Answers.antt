use Rattle.std.proofs.Common.{ap, ◌∙◌, slice_set}
use Rattle.ap_table.specs.declared.stored.Stage.{Stage}
use Rattle.ap_table.specs.declared.stored.Stage.TheVariants as stage
use Rattle.ap_table.proofs.Showing.{get_at, set_is}
use Rattle.ap_table.proofs.Moving.{free_there}
use Rattle.ap_table.proofs.Showing.{below_length}
use Rattle.ap_table.proofs.making.set_claimed.Goals as goal

pub returns-clause-nodes : goal.returns-clause-nodes
returns-clause-nodes g c =
    let xs = c.args.nodes.now.items in
    let x = c.index_mut-node.result.now in
    let f = free_there xs c.args.i c.requires in
    let at = get_at xs c.args.i x (below_length xs c.args.i f.0 f.1) c.index_mut-node.ensures.value in
    ap (λ (s : Stage g.row.T.Denot). slice_set xs c.args.i (record x { stage = s })) c.replace.ensures.after
    ∙ set_is xs c.args.i x (λ y. record y { stage = stage.Claimed }) at
