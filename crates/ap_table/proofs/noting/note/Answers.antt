use Rattle.std.proofs.Common.{◌≡◌, ◌+◌, Some, sym, ap, ◌∙◌}
use Rattle.std.specs.List.{slice_get}
use Rattle.ap_table.specs.declared.stored.Stored.{Stored}
use Rattle.ap_table.proofs.Keeping.{some_is}
use Rattle.ap_table.proofs.Showing.{get_at, below_length}
use Rattle.ap_table.proofs.Noted.{same_note}
use Rattle.ap_table.proofs.noting.note.Goals as goal

pub returns : goal.returns
returns g c =
    let xs = c.args.nodes.now.items in
    let r = c.requires in
    let x = c.index.result.now in
    let at = get_at xs c.args.license.family x (below_length xs c.args.license.family r.parent r.parent_at) c.index.ensures in
    let same : r.parent ≡ x = some_is r.parent x (sym r.parent_at ∙ at) in
    let there : slice_get xs (x.first + c.args.license.index) ≡ Some r.sibling = ap (λ (p : Stored g.row.S-Task.Denot). slice_get xs (p.first + c.args.license.index)) (sym same) ∙ r.sibling_at in
    record {
      node = r.node;
      at = r.at;
      parent = r.parent;
      parent_at = r.parent_at;
      sibling = r.sibling;
      sibling_at = r.sibling_at;
      is = same_note c.in_ok-dropped.dropped (g.S.Step.name r.node.task) c.in_ok-stopped.stopped (g.S.Step.name r.sibling.task) c.args.license (c.in_ok-dropped.ensures r.node r.at) (c.in_ok-stopped.ensures r.sibling there);
    }
