use Rattle.std.proofs.Common.{IfOk, IfSome, subst}
use Rattle.ap_kernel.specs.declared.objects.Ctx.{Ctx}
use Rattle.ap_rewrite.specs.Answering.{From, defs_in}
use Rattle.ap_rewrite.proofs.Froms.{ctx_is, assumed_known}
use Rattle.ap_rewrite.proofs.Seats.{entered_here, may_leave, has_left}
use Rattle.ap_rewrite.proofs.branching.under.Goals as goal

pub deeper-found-requires-clause-facts : goal.deeper-found-requires-clause-facts
deeper-found-requires-clause-facts g c =
    assumed_known (defs_in c.args.l.now.r.now) c.args.at.now.ctx.now.0 c.args.a.now c.args.sign _ c.in_ok-ctx.ensures c.requires.facts c.requires.test

pub returns-clause-is : goal.returns-clause-is
returns-clause-is g c = rw (← c.in_ok-ctx.ensures) c.deeper-found.ensures.is

pub returns-clause-from : goal.returns-clause-from
returns-clause-from g c =
    subst (λ (x : Ctx). IfOk c.deeper-found.result (λ o. IfSome o (From c.args.l.now.r.now.w.now c.args.mode x c.args.t.now))) (ctx_is c.in_ok-ctx.ctx _ c.in_ok-ctx.ensures) c.deeper-found.ensures.from

pub deeper-found-requires-clause-here : goal.deeper-found-requires-clause-here
deeper-found-requires-clause-here g c = entered_here c.args.l.now.r.now c.args.at.now c.in_ok-ctx.ctx.0 c.args.at.now.closed.now _ _ c.requires.here c.in_ok-enter.ensures.ok

pub leave-requires : goal.leave-requires
leave-requires g c = record { entered = may_leave _ _ _ c.in_ok-ctx.ctx.0 c.args.at.now.closed.now c.in_ok-enter.ensures.ok c.deeper-found.ensures.kept }

pub returns-clause-kept : goal.returns-clause-kept
returns-clause-kept g c = has_left _ _ _ c.in_ok-ctx.ctx.0 c.args.at.now.closed.now c.in_ok-enter.ensures.ok c.deeper-found.ensures.kept _ c.leave.ensures.left
