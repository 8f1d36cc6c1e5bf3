use Rattle.std.proofs.Common.{◌≡◌, true, sym, subst, IfSome}
use Rattle.ap_term.specs.declared.term.Term.{Term}
use Rattle.ap_world.specs.Sound.{known}
use Rattle.ap_kernel.specs.Linear.{is_comparison}
use Rattle.ap_rewrite.specs.Linear.{refuted}
use Rattle.ap_rewrite.specs.Refuting.{Refutes}
use Rattle.ap_rewrite.specs.Answering.{where_applied, defs_in, setting_of, inner_of, seen_at, got_if}
use Rattle.ap_rewrite.proofs.Refuted.{less_compares, less_known}
use Rattle.ap_rewrite.proofs.arithmetic.less_refuted.Goals as goal

pub refuted-requires-clause-term : goal.refuted-requires-clause-term
refuted-requires-clause-term g c =
    subst (λ (u : Term). known (defs_in c.args.l.now.r.now) u ≡ true) (sym c.in_ok-less.ensures) (less_known (defs_in c.args.l.now.r.now) c.args.a.now c.args.b.now c.requires.left c.requires.right)

pub refuted-requires-clause-comparison : goal.refuted-requires-clause-comparison
refuted-requires-clause-comparison g c = subst (λ (u : Term). is_comparison u ≡ true) (sym c.in_ok-less.ensures) (less_compares c.args.a.now c.args.b.now)

pub returns-clause-is : goal.returns-clause-is
returns-clause-is g c =
    subst (λ (u : Term). got_if c.in_ok-found.found c.refuted.new.steps.left ≡ refuted (setting_of c.args.l.now.r.now) (inner_of c.args.l.now.r.now c.args.l.now.levels) (seen_at c.args.at.now) u true c.args.steps.now.left)
    c.in_ok-less.ensures c.in_ok-found.ensures.is

pub returns-clause-refutes : goal.returns-clause-refutes
returns-clause-refutes g c =
    subst (λ (u : Term). IfSome c.in_ok-found.found (λ q. IfSome (where_applied q) (Refutes c.args.l.now.r.now.w.now c.args.at.now.ctx.now u true))) c.in_ok-less.ensures c.in_ok-found.ensures.refutes
