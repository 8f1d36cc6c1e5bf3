use Rattle.std.proofs.Common.{ℕ, List, Some, sym, ap, ◌∙◌}
use Rattle.ap_outside.proofs.Places.{bytes_at_place, bytes_at_none}
use Rattle.ap_outside.proofs.files.bytes_at.Goals as goal

pub returns-in_err-place : goal.returns-in_err-place
returns-in_err-place c = rw c.from_residual.ensures (sym (bytes_at_none c.args.files.now c.args.name.now (sym c.in_err-place.ensures.place)))

pub returns : goal.returns
returns c =
    let file = c.index-files-place.result in
    let found = bytes_at_place c.args.files.now c.args.name.now _ file (sym c.in_ok-place.ensures.place) c.index-files-place.is in
    ap Some (c.as_slice.ensures ∙ sym (ap (λ (f : List ℕ × List ℕ). f.1) c.index-files-place.is)) ∙ sym found
