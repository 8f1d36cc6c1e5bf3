use Rattle.ap_rewrite.proofs.Seats.{entered_here, may_leave, has_left}
use Rattle.ap_rewrite.proofs.opening.both_within.Goals as goal

pub both-found-requires-clause-here : goal.both-found-requires-clause-here
both-found-requires-clause-here g c = entered_here c.args.l.now.r.now c.args.way.now.at.now c.args.way.now.inner.now.ctx.now.0 c.args.way.now.inner.now.closed.now _ _ c.requires.here c.in_ok-enter.ensures.ok

pub leave-requires : goal.leave-requires
leave-requires g c = record { entered = may_leave _ _ _ c.args.way.now.inner.now.ctx.now.0 c.args.way.now.inner.now.closed.now c.in_ok-enter.ensures.ok c.both-found.ensures.kept }

pub returns-clause-kept : goal.returns-clause-kept
returns-clause-kept g c = has_left _ _ _ c.args.way.now.inner.now.ctx.now.0 c.args.way.now.inner.now.closed.now c.in_ok-enter.ensures.ok c.both-found.ensures.kept _ c.leave.ensures.left
