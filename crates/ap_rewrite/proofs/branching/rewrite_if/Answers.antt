use Rattle.std.proofs.Common.{◌≡◌, ◌∙◌, IfOk, IfSome, sym, ap, subst}
use Rattle.ap_term.specs.declared.term.Term.{Term}
use Rattle.ap_kernel.specs.Answers.{if_of}
use Rattle.ap_rewrite.specs.Answering.{setting_of, inner_of, seen_at, got, From}
use Rattle.ap_rewrite.proofs.Froms.{from_own}
use Rattle.ap_rewrite.proofs.Branched.{if_goes, if_out}
use Rattle.ap_rewrite.proofs.branching.rewrite_if.Goals as goal

pub branches-requires-clause-term : goal.branches-requires-clause-term
branches-requires-clause-term g c =
    let h = rw c.in-Some.is at c.in_ok-test.ensures.from in
    c.requires.term ∙ ap (λ (u : Term). if_of u c.args.b.now c.args.c.now) (sym h.lhs)

pub branches-requires-clause-test : goal.branches-requires-clause-test
branches-requires-clause-test g c = from_own _ _ _ _ _ (rw c.in-Some.is at c.in_ok-test.ensures.from)

pub returns-in_default-clause-is : goal.returns-in_default-clause-is
returns-in_default-clause-is g c =
    if_out (setting_of c.args.l.now.r.now) (inner_of c.args.l.now.r.now c.args.l.now.levels) c.args.mode (seen_at c.args.at.now) _ _ _ _ (rw c.in_default.is at c.in_ok-test.ensures.is)

pub returns-clause-is : goal.returns-clause-is
returns-clause-is g c =
    subst (λ n. IfOk c.branches.result (λ o. got o c.branches.new.steps.left ≡ n))
    (if_goes (setting_of c.args.l.now.r.now) (inner_of c.args.l.now.r.now c.args.l.now.levels) c.args.mode (seen_at c.args.at.now) _ _ _ _ _ _ (rw c.in-Some.is at c.in_ok-test.ensures.is))
    c.branches.ensures.is

pub returns-clause-from : goal.returns-clause-from
returns-clause-from g c =
    let h = rw c.in-Some.is at c.in_ok-test.ensures.from in
    subst (λ (u : Term). IfOk c.branches.result (λ o. IfSome o (From c.args.l.now.r.now.w.now c.args.mode c.args.at.now.ctx.now (if_of u c.args.b.now c.args.c.now)))) h.lhs c.branches.ensures.from
