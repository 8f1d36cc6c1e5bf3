use Rattle.std.proofs.Common.{◌≡◌, drop}
use Rattle.ap_rewrite.specs.Relieving.{relieve}
use Rattle.ap_rewrite.specs.Answering.{inner_of, seen_at}
use Rattle.ap_rewrite.proofs.Reliefs.{ReliefsDone}
use Rattle.ap_rewrite.proofs.rules.relieve.Given as goal

-- what is left of the hypotheses, under the pairs so far, gives what all of them give; and the memo stays
abbrev pub invariant-loop-h : goal.invariant-loop-h
invariant-loop-h g l = (ReliefsDone l.l.r.now.w.now l.at.ctx.now
    (relieve (inner_of l.l.r.now l.l.levels) (seen_at l.at) (drop l.h-index l.hs) l.pairs.0 l.steps.left)
    (relieve (inner_of l.l.r.now l.l.levels) (seen_at l.at) l.hs l.fn.s.0 l.fn.steps.left)
    (drop l.h-index l.hs) l.hs l.fn.s.0 l.pairs.0 l.shown)
    × (l.steps.memo ≡ l.fn.steps.memo)
