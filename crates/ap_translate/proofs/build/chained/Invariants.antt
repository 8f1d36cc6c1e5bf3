use Rattle.std.proofs.Common.{◌≡◌, length}
use Rattle.ap_translate.specs.Rows.{join_of, chained}
use Rattle.ap_translate.proofs.build.chained.Given as goal

-- the terms that are left stand before those that are chained
abbrev pub invariant-loop-term : goal.invariant-loop-term
invariant-loop-term l = chained (join_of l.join) l.left l.chain ≡ chained (join_of l.join) l.fn.terms l.fn.last

abbrev pub decreases-loop-term : goal.decreases-loop-term
decreases-loop-term l = length l.left
