use Rattle.std.proofs.Common.{◌+◌, [], take, drop, reverse, refl, ap, sym, ◌∙◌}
use Rattle.ap_table.proofs.Standing.{none_stands, stands}
use Rattle.ap_table.proofs.live.take_out.Goals as goal

pub returns-in-Some : goal.returns-in-Some
returns-in-Some c =
    let found = c.in-Some.ensures.found in
    let v = c.as_slice.result.now in
    ap reverse c.remove.ensures.by_index.2
    ∙ rw (sym c.as_slice.ensures.value) (stands v (take c.in-Some.at v) (drop (c.in-Some.at + 1) v) [] c.args.node found.1 found.2)

pub returns-in_default : goal.returns-in_default
returns-in_default c = rw (sym c.as_slice.ensures.value) (none_stands c.as_slice.result.now c.args.node [] (c.in_default.ensures.none refl))
