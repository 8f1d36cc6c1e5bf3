use Rattle.ap_ground.proofs.Made.{joined_parts}
use Rattle.ap_ground.proofs.ground.functions.Goals as goal

pub returns : goal.returns
returns c =
    joined_parts _ _ _ _ _ _ _ c.in_ok-all.ensures c.in_ok-recognisers.ensures c.in_ok-comparisons.ensures c.in_ok-lists.ensures
    c.in_ok-append.ensures.ok c.in_ok-append-2.ensures.ok c.in_ok-append-3.ensures.ok
