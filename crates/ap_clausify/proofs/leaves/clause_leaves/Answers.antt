use Rattle.std.proofs.Common.{◌-◌, length, take, drop, map, ap, ◌∙◌}
use Rattle.ap_clausify.specs.Leaves.{product, leaves, capped}
use Rattle.ap_clausify.proofs.Seen.{front_leaves}
use Rattle.ap_clausify.proofs.leaves.clause_leaves.Goals as goal

pub returns : goal.returns
returns c =
    let k = c.args.cursor in
    c.leaves_of.ensures
    ∙ ap (λ ts. capped c.args.limit (product (map leaves (take (length ts - k) (drop k ts))))) c.as_slice.ensures
    ∙ ap (capped c.args.limit) (front_leaves c.args.c.now.0 k c.requires.ready.none)
