use Rattle.std.proofs.Common.{◌≡◌, IfSome, subst}
use Rattle.ap_term.specs.declared.term.Term.{Term}
use Rattle.ap_kernel.specs.declared.objects.Mode.TheVariants.{Iff}
use Rattle.ap_rewrite.specs.Answering.{defs_in, inner_of, seen_at, got, From}
use Rattle.ap_rewrite.proofs.Tested.{part_known}
use Rattle.ap_rewrite.proofs.opening.rewrite_test.Goals as goal

pub deeper-requires-clause-term : goal.deeper-requires-clause-term
deeper-requires-clause-term g c = part_known (defs_in c.args.l.now.r.now) _ _ _ _ c.in_ok-instance.ensures c.requires.arguments c.requires.test

pub returns-clause-is : goal.returns-clause-is
returns-clause-is g c =
    subst (λ (u : Term). got c.in_ok-found.found c.deeper.new.steps.left ≡ inner_of c.args.l.now.r.now c.args.l.now.levels Iff (seen_at c.args.at.now) u c.args.steps.now.left)
    c.in_ok-instance.ensures c.in_ok-found.ensures.is

pub returns-clause-from : goal.returns-clause-from
returns-clause-from g c =
    subst (λ (u : Term). IfSome c.in_ok-found.found (From c.args.l.now.r.now.w.now Iff c.args.at.now.ctx.now u)) c.in_ok-instance.ensures c.in_ok-found.ensures.from
