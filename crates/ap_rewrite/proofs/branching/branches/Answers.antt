use Rattle.std.proofs.Common.{◌≡◌, IfOk, IfSome, Some, None, sym, ap, ◌∙◌, subst}
use Rattle.ap_term.specs.declared.term.Term.{Term}
use Rattle.ap_rewrite.specs.Rewriting.{truth_of}
use Rattle.ap_rewrite.specs.Answering.{setting_of, inner_of, seen_at, got, From}
use Rattle.ap_rewrite.proofs.Branched.{branches_open, branches_chosen}
use Rattle.ap_rewrite.proofs.branching.branches.Goals as goal

pub both-requires-clause-open : goal.both-requires-clause-open
both-requires-clause-open g c = ap truth_of (sym c.rhs.ensures) ∙ sym c.in-None.ensures

pub choose-requires-clause-sign : goal.choose-requires-clause-sign
choose-requires-clause-sign g c = ap truth_of (sym c.rhs.ensures) ∙ sym c.in-Some.ensures

pub returns-in-None-clause-is : goal.returns-in-None-clause-is
returns-in-None-clause-is g c =
    let open_test : truth_of c.args.test.says.rhs ≡ None = ap truth_of (sym c.rhs.ensures) ∙ sym c.in-None.ensures in
    subst (λ n. IfOk c.both.result (λ o. got o c.both.new.steps.left ≡ n))
    (branches_open (setting_of c.args.l.now.r.now) (inner_of c.args.l.now.r.now c.args.l.now.levels) c.args.mode (seen_at c.args.at.now) _ _ _ _ _ open_test) c.both.ensures.is

pub returns-in_ok-first-in-Some-clause-is : goal.returns-in_ok-first-in-Some-clause-is
returns-in_ok-first-in-Some-clause-is g c =
    let sign : truth_of c.args.test.says.rhs ≡ Some c.in-Some.sign = ap truth_of (sym c.rhs.ensures) ∙ sym c.in-Some.ensures in
    subst (λ n. IfOk c.go_on.result (λ o. got o c.go_on.new.steps.left ≡ n))
    (branches_chosen (setting_of c.args.l.now.r.now) (inner_of c.args.l.now.r.now c.args.l.now.levels) c.args.mode (seen_at c.args.at.now) _ _ _ _ _ _ _ sign c.in_ok-first-in-Some.ensures.is) c.go_on.ensures.is

pub returns-in_ok-first-in-Some-clause-from : goal.returns-in_ok-first-in-Some-clause-from
returns-in_ok-first-in-Some-clause-from g c =
    subst (λ (u : Term). IfOk c.go_on.result (λ o. IfSome o (From c.args.l.now.r.now.w.now c.args.mode c.args.at.now.ctx.now u))) c.in_ok-first-in-Some.ensures.from.lhs c.go_on.ensures.from
