use Rattle.std.proofs.Common.{◌≡◌, []}
use Rattle.ap_rewrite.specs.Literals.{rewrite_literals}
use Rattle.ap_rewrite.specs.Answering.{setting_of}
use Rattle.ap_rewrite.proofs.Simplified.{Stage}
use Rattle.ap_rewrite.proofs.simplifying.rewrite_literals.Given as goal

-- the literals before the place are rewritten, and those from there on give what all of them give; and the memo stays
abbrev pub invariant-loop-place : goal.invariant-loop-place
invariant-loop-place g l = (Stage l.r.w.now (setting_of l.r) l.fn.c (rewrite_literals (setting_of l.r) [] l.fn.c.0 l.fn.steps.left) l.place l.steps.left l.so_far)
    × (l.memo ≡ l.fn.memo)
