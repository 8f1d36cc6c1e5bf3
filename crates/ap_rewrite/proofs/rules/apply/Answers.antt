use Rattle.std.proofs.Common.{◌≡◌, ◌∙◌, IfOk, IsTrue, List, Option, Some, None, refl, sym, ap, subst}
use Rattle.ap_list.specs.Lists.{Each}
use Rattle.ap_term.specs.declared.term.Term.{Term}
use Rattle.ap_term.specs.Metered.{Got}
use Rattle.ap_world.specs.Sound.{known}
use Rattle.ap_world.proofs.Instances.{match_fits}
use Rattle.ap_rewrite.specs.declared.rewriter.Tried.TheVariants.{Applied, PassedBy}
use Rattle.ap_rewrite.specs.Relieving.{relieve}
use Rattle.ap_rewrite.specs.Answering.{defs_in, inner_of, seen_at, got_any, Shows}
use Rattle.ap_rewrite.proofs.Reliefs.{shows_from}
use Rattle.ap_rewrite.proofs.Ruled.{taken, passed, after_out, after_some}
use Rattle.ap_rewrite.proofs.rules.apply.Goals as goal

pub returns-then-not-branch-clause-is : goal.returns-then-not-branch-clause-is
returns-then-not-branch-clause-is g c = passed _ _ _ _ (sym c.in_ok-in_order_first.ensures ∙ c.if-not-branch.true) refl

pub relieve-requires-clause-pairs : goal.relieve-requires-clause-pairs
relieve-requires-clause-pairs g c = (match_fits (defs_in c.args.l.now.r.now) c.args.g.now.lhs c.args.t.now _ c.args.s.0 c.requires.term tt c.requires.matched).1

pub relieve-requires-clause-hyps : goal.relieve-requires-clause-hyps
relieve-requires-clause-hyps g c = subst (Each (λ (h : Term). IsTrue (known (defs_in c.args.l.now.r.now) h))) (sym c.as_slice.ensures) c.requires.rule.hyps

pub relieved-requires-clause-shown : goal.relieved-requires-clause-shown
relieved-requires-clause-shown g c =
    let there : c.in_ok-relieve.field-0 ≡ Some (Applied c.in-Some-Applied.found) = c.in-Some-Applied.is ∙ ap Some c.in-Some-Applied.field-0-is in
    shows_from c.args.l.now.r.now.w.now c.args.at.now.ctx.now c.args.g.now.hyps c.args.s.0 c.in-Some-Applied.found
    (subst (λ (hs : List Term). Shows c.args.l.now.r.now.w.now c.args.at.now.ctx.now hs c.args.s.0 c.in-Some-Applied.found) c.as_slice.ensures (rw there at c.in_ok-relieve.ensures.shown))

pub relieved-requires-clause-instance : goal.relieved-requires-clause-instance
relieved-requires-clause-instance g c =
    let there : c.in_ok-relieve.field-0 ≡ Some (Applied c.in-Some-Applied.found) = c.in-Some-Applied.is ∙ ap Some c.in-Some-Applied.field-0-is in
    let shows = rw there at c.in_ok-relieve.ensures.shown in
    (match_fits (defs_in c.args.l.now.r.now) c.args.g.now.lhs c.args.t.now _ c.args.s.0 c.requires.term tt c.requires.matched).2 c.in-Some-Applied.found.pairs.0 shows.extends

pub returns-in-None-clause-is : goal.returns-in-None-clause-is
returns-in-None-clause-is g c =
    taken _ _ _ _ (sym c.in_ok-in_order_first.ensures ∙ c.if-not-branch.false)
    (after_out _ _ ((rw c.in-None.is at c.in_ok-relieve.ensures.is)
    ∙ ap (λ (hs : List Term). relieve (inner_of c.args.l.now.r.now c.args.l.now.levels) (seen_at c.args.at.now) hs c.args.s.0 c.args.steps.now.left) c.as_slice.ensures))

pub returns-in-Some-PassedBy-clause-is : goal.returns-in-Some-PassedBy-clause-is
returns-in-Some-PassedBy-clause-is g c =
    let there : c.in_ok-relieve.field-0 ≡ Some PassedBy = c.in-Some-PassedBy.is ∙ ap Some c.in-Some-PassedBy.field-0-is in
    taken _ _ _ _ (sym c.in_ok-in_order_first.ensures ∙ c.if-not-branch.false)
    (after_some _ _ None c.relieve.new.steps.left _ ((rw there at c.in_ok-relieve.ensures.is)
    ∙ ap (λ (hs : List Term). relieve (inner_of c.args.l.now.r.now c.args.l.now.levels) (seen_at c.args.at.now) hs c.args.s.0 c.args.steps.now.left) c.as_slice.ensures) refl)

pub returns-in-Some-Applied-clause-is : goal.returns-in-Some-Applied-clause-is
returns-in-Some-Applied-clause-is g c =
    let there : c.in_ok-relieve.field-0 ≡ Some (Applied c.in-Some-Applied.found) = c.in-Some-Applied.is ∙ ap Some c.in-Some-Applied.field-0-is in
    subst (λ (x : Got (Option Term)). IfOk c.relieved.result (λ o. got_any o c.relieved.new.steps.left ≡ x))
    (taken _ _ _ _ (sym c.in_ok-in_order_first.ensures ∙ c.if-not-branch.false)
    (after_some _ _ (Some c.in-Some-Applied.found.pairs.0) c.relieve.new.steps.left _ ((rw there at c.in_ok-relieve.ensures.is)
    ∙ ap (λ (hs : List Term). relieve (inner_of c.args.l.now.r.now c.args.l.now.levels) (seen_at c.args.at.now) hs c.args.s.0 c.args.steps.now.left) c.as_slice.ensures) refl))
    c.relieved.ensures.is
