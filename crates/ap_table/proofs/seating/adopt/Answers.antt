use Rattle.std.proofs.Common.{ap, ◌∙◌, ◌++◌}
use Rattle.ap_table.specs.Seated.{with_kept}
use Rattle.ap_table.proofs.Showing.{get_at}
use Rattle.ap_table.proofs.Sitting.{amend_is}
use Rattle.ap_table.proofs.seating.adopt.Goals as goal

pub returns : goal.returns
returns c =
    let xs = c.args.seats.now.items in
    let x = c.index_mut-beside.result.now in
    let at = get_at xs c.args.i x c.requires.there c.index_mut-beside.ensures.value in
    c.in-Ok.ensures.items ∙ ap (λ l. l ++ c.args.rows.items) (amend_is xs c.args.i x (with_kept c.args.own) at)
