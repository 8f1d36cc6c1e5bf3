use Rattle.std.proofs.Common.{◌≡◌, drop}
use Rattle.ap_rewrite.specs.Rewriting.{rewrite_args}
use Rattle.ap_rewrite.specs.Answering.{setting_of, inner_of, seen_at}
use Rattle.ap_rewrite.proofs.Arguments.{ArgumentsDone}
use Rattle.ap_rewrite.proofs.calls.rewrite_args.Given as goal

-- what is left of the arguments, behind those that are done, gives what all of them give; and the memo stays
abbrev pub invariant-loop-u : goal.invariant-loop-u
invariant-loop-u g l = (ArgumentsDone l.l.r.now.w.now l.at.ctx.now
    (rewrite_args (setting_of l.l.r.now) (inner_of l.l.r.now l.l.levels) (seen_at l.at) (drop l.u-index l.us) l.steps.left)
    (rewrite_args (setting_of l.l.r.now) (inner_of l.l.r.now l.l.levels) (seen_at l.at) l.us l.fn.steps.left)
    (drop l.u-index l.us) l.us l.out)
    × (l.steps.memo ≡ l.fn.steps.memo)
