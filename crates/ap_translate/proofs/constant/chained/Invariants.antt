use Rattle.std.proofs.Common.{◌≡◌, length}
use Rattle.ap_translate.specs.Quoted.{conses}
use Rattle.ap_translate.proofs.constant.chained.Given as goal

-- the values that are left stand before those that are chained
abbrev pub invariant-loop-value : goal.invariant-loop-value
invariant-loop-value l = conses l.left l.chain ≡ conses l.fn.values l.fn.end

abbrev pub decreases-loop-value : goal.decreases-loop-value
decreases-loop-value l = length l.left
