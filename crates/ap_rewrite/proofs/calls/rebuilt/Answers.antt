use Rattle.std.proofs.Common.{◌∙◌, IsTrue, List, length, sym, ap, subst}
use Rattle.ap_list.specs.Lists.{Each}
use Rattle.ap_world.specs.Primitives.{prim_of}
use Rattle.ap_world.specs.Sound.{is_head}
use Rattle.ap_kernel.specs.declared.objects.Sequent.{Sequent}
use Rattle.ap_kernel.specs.declared.objects.Equiv.{Equiv}
use Rattle.ap_kernel.specs.Answers.{IsArgument, said, cong_made}
use Rattle.ap_rewrite.specs.Answering.{defs_in}
use Rattle.ap_rewrite.proofs.Conged.{arguments_fit}
use Rattle.ap_rewrite.proofs.Froms.{from_made, right_made, mode_made, equal_serves}
use Rattle.ap_rewrite.proofs.calls.rebuilt.Goals as goal

pub cong-requires-clause-head : goal.cong-requires-clause-head
cong-requires-clause-head g c =
    subst (λ (qs : List Equiv). IsTrue (is_head (defs_in c.args.r.now) c.args.f.now (prim_of c.args.f.now) (length qs))) (sym c.as_slice.ensures) c.requires.head

pub cong-requires-clause-args : goal.cong-requires-clause-args
cong-requires-clause-args g c =
    subst (Each (IsArgument c.args.r.now.w.now c.args.ctx.now c.args.f.now)) (sym c.as_slice.ensures) (arguments_fit _ _ _ _ c.requires.args)

pub in_mode-requires-clause-serves : goal.in_mode-requires-clause-serves
in_mode-requires-clause-serves g c = equal_serves _ _ (ap (λ (x : Sequent). x.mode) c.in_ok-equal.ensures.made)

pub returns-clause-is : goal.returns-clause-is
returns-clause-is g c =
    right_made _ _ _ _ _
    (mode_made _ _ _ _ _ _ (c.in_ok-equal.ensures.made ∙ ap (λ (qs : List Equiv). cong_made c.args.ctx.now c.args.f.now (said qs)) c.as_slice.ensures) c.in_ok-q.ensures.made)

pub returns-clause-from : goal.returns-clause-from
returns-clause-from g c =
    from_made _ _ _ _ _ _ c.in_ok-q.ensures.stands
    (mode_made _ _ _ _ _ _ (c.in_ok-equal.ensures.made ∙ ap (λ (qs : List Equiv). cong_made c.args.ctx.now c.args.f.now (said qs)) c.as_slice.ensures) c.in_ok-q.ensures.made)
