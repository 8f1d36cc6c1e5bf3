use Rattle.std.proofs.Common.{ap, sym, ◌∙◌, slice_set, Option, List}
use Rattle.ap_table.specs.declared.seats.AncestorSeat.{AncestorSeat}
use Rattle.ap_table.specs.declared.seats.Beside.{Beside}
use Rattle.ap_table.specs.Seated.{without_job}
use Rattle.ap_table.proofs.Keeping.{some_is}
use Rattle.ap_table.proofs.Showing.{get_at}
use Rattle.ap_table.proofs.Sitting.{is_below, amend_is}
use Rattle.ap_table.proofs.seating.take_seats.Goals as goal

pub returns-clause-seats : goal.returns-clause-seats
returns-clause-seats c =
    let xs = c.args.seats.now.items in
    let x = c.index_mut-beside.result.now in
    let at = get_at xs c.args.i x (is_below xs c.args.i c.requires.0 c.requires.2) c.index_mut-beside.ensures.value in
    ap (λ (s : Option (List AncestorSeat)). slice_set xs c.args.i (record x { job = s })) c.replace.ensures.after ∙ amend_is xs c.args.i x without_job at

pub returns-clause-job : goal.returns-clause-job
returns-clause-job c b e =
    let xs = c.args.seats.now.items in
    let x = c.index_mut-beside.result.now in
    let at = get_at xs c.args.i x (is_below xs c.args.i c.requires.0 c.requires.2) c.index_mut-beside.ensures.value in
    ap (λ (y : Beside). y.job) (some_is b x (sym e ∙ at)) ∙ (sym c.replace.ensures.value ∙ c.in-Some.is)
