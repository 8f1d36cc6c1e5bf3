use Rattle.std.proofs.Common.{◌≡◌, ap, sym, ◌∙◌, slice_set, Some, Option}
use Rattle.ap_table.specs.Kept.{Kept}
use Rattle.ap_table.specs.Seated.{with_mark, marked_kept}
use Rattle.ap_table.proofs.Showing.{get_at}
use Rattle.ap_table.proofs.Sitting.{is_below, amend_is, kept_there}
use Rattle.ap_table.proofs.seating.mark_at.Goals as goal

pub returns : goal.returns
returns c =
    let xs = c.args.seats.now.items in
    let x = c.index_mut-beside.result.now in
    let b = kept_there _ c.requires.0 c.requires.1 in
    let at = get_at xs c.args.i x (is_below xs c.args.i b.0 b.1) c.index_mut-beside.ensures.value in
    let kept : Some c.mark.new.self ≡ marked_kept c.args.place x.kept = ap (λ (v : Kept). Some v) c.mark.ensures ∙ ap (marked_kept c.args.place) (sym c.in-Some.is) in
    ap (λ (k : Option Kept). slice_set xs c.args.i (record x { kept = k })) kept ∙ amend_is xs c.args.i x (with_mark c.args.place) at
