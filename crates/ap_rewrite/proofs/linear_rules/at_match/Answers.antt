use Rattle.std.proofs.Common.{◌≡◌, ◌∙◌, IsTrue, List, Some, sym, ap, subst}
use Rattle.ap_list.specs.Lists.{Each}
use Rattle.ap_term.specs.declared.term.Term.{Term}
use Rattle.ap_world.specs.Sound.{known}
use Rattle.ap_rewrite.specs.declared.rewriter.Tried.TheVariants.{Applied, PassedBy}
use Rattle.ap_rewrite.specs.Relieving.{relieve}
use Rattle.ap_rewrite.specs.Answering.{defs_in, setting_of, inner_of, seen_at, Shows}
use Rattle.ap_rewrite.proofs.RuleReasons.{with_rule}
use Rattle.ap_rewrite.proofs.LinearUsed.{match_out, match_none}
use Rattle.ap_rewrite.proofs.linear_rules.at_match.Goals as goal

pub relieve-requires-clause-hyps : goal.relieve-requires-clause-hyps
relieve-requires-clause-hyps g c = subst (Each (λ (h : Term). IsTrue (known (defs_in c.args.l.now.r.now) h))) (sym c.as_slice.ensures) c.requires.rule.hyps

pub returns-in-None-clause-is : goal.returns-in-None-clause-is
returns-in-None-clause-is g c =
    match_out (setting_of c.args.l.now.r.now) (inner_of c.args.l.now.r.now c.args.l.now.levels) (seen_at c.args.at.now) c.args.g.now c.args.polys c.args.s.0 c.args.steps.now.left c.relieve.new.steps.left
    ((rw c.in-None.is at c.in_ok-relieve.ensures.is)
    ∙ ap (λ (hs : List Term). relieve (inner_of c.args.l.now.r.now c.args.l.now.levels) (seen_at c.args.at.now) hs c.args.s.0 c.args.steps.now.left) c.as_slice.ensures)

pub returns-in-Some-PassedBy-clause-is : goal.returns-in-Some-PassedBy-clause-is
returns-in-Some-PassedBy-clause-is g c =
    let there : c.in_ok-relieve.field-0 ≡ Some PassedBy = c.in-Some-PassedBy.is ∙ ap Some c.in-Some-PassedBy.field-0-is in
    match_none (setting_of c.args.l.now.r.now) (inner_of c.args.l.now.r.now c.args.l.now.levels) (seen_at c.args.at.now) c.args.g.now c.args.polys c.args.s.0 c.args.steps.now.left c.relieve.new.steps.left
    ((rw there at c.in_ok-relieve.ensures.is)
    ∙ ap (λ (hs : List Term). relieve (inner_of c.args.l.now.r.now c.args.l.now.levels) (seen_at c.args.at.now) hs c.args.s.0 c.args.steps.now.left) c.as_slice.ensures)

pub returns-in_ok-more-in-Some-Applied-clause-reasons : goal.returns-in_ok-more-in-Some-Applied-clause-reasons
returns-in_ok-more-in-Some-Applied-clause-reasons g c = λ u s h.
    let there : c.in_ok-relieve.field-0 ≡ Some (Applied c.in-Some-Applied.found) = c.in-Some-Applied.is ∙ ap Some c.in-Some-Applied.field-0-is in
    with_rule c.args.l.now.r.now.w.now c.args.at.now.ctx.now u s c.args.g.now c.requires.told c.args.s.0 c.in-Some-Applied.found
    (subst (λ (hs : List Term). Shows c.args.l.now.r.now.w.now c.args.at.now.ctx.now hs c.args.s.0 c.in-Some-Applied.found) c.as_slice.ensures (rw there at c.in_ok-relieve.ensures.shown))
    c.args.polys c.in_ok-more-in-Some-Applied.more c.args.whys.now _ c.in_ok-more-in-Some-Applied.ensures.polys c.in_ok-more-in-Some-Applied.ensures.whys h
