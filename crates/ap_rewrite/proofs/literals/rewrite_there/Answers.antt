use Rattle.ap_rewrite.proofs.Seats.{entered_for, may_leave, has_left}
use Rattle.ap_rewrite.proofs.literals.rewrite_there.Goals as goal

pub rewrite-found-requires-clause-here : goal.rewrite-found-requires-clause-here
rewrite-found-requires-clause-here g c = entered_for c.args.r.now c.args.at.now.ctx.now.0 c.args.at.now.closed.now _ _ c.requires.same c.in_ok-enter.ensures.ok

pub leave-requires : goal.leave-requires
leave-requires g c = record { entered = may_leave _ _ _ c.args.at.now.ctx.now.0 c.args.at.now.closed.now c.in_ok-enter.ensures.ok c.rewrite-found.ensures.kept }

pub returns-clause-kept : goal.returns-clause-kept
returns-clause-kept g c = has_left _ _ _ c.args.at.now.ctx.now.0 c.args.at.now.closed.now c.in_ok-enter.ensures.ok c.rewrite-found.ensures.kept _ c.leave.ensures.left
