use Rattle.std.proofs.Common.{sym, ap, ◌∙◌}
use Rattle.ap_rewrite.specs.Rewriting.{truth_of}
use Rattle.ap_rewrite.specs.Answering.{defs_in, setting_of, inner_of, seen_at}
use Rattle.ap_rewrite.proofs.Opened.{opened_at}
use Rattle.ap_rewrite.proofs.Tested.{arguments_known, test_known, opened_if, test_out, test_open, from_steps}
use Rattle.ap_rewrite.proofs.opening.open_by_test.Goals as goal

pub rewrite_test-requires-clause-arguments : goal.rewrite_test-requires-clause-arguments
rewrite_test-requires-clause-arguments g c = arguments_known (defs_in c.args.l.now.r.now) _ _ _ c.requires.call c.requires.term

pub rewrite_test-requires-clause-test : goal.rewrite_test-requires-clause-test
rewrite_test-requires-clause-test g c = test_known c.args.l.now.r.now.w.now.entries c.recall_sound.ensures _ _ _ _ _ c.requires.function c.requires.choice.2

pub returns-in_default-clause-is : goal.returns-in_default-clause-is
returns-in_default-clause-is g c =
    test_out (setting_of c.args.l.now.r.now) (inner_of c.args.l.now.r.now c.args.l.now.levels) c.args.mode (seen_at c.args.at.now) c.args.call.now.f.now c.args.call.now.us.now c.args.g.now c.args.a.now _ _ c.args.steps.now.left c.requires.choice.2
    (rw c.in_default.is at c.in_ok-test.ensures.is)

pub returns-in-None-clause-is : goal.returns-in-None-clause-is
returns-in-None-clause-is g c =
    test_open (setting_of c.args.l.now.r.now) (inner_of c.args.l.now.r.now c.args.l.now.levels) c.args.mode (seen_at c.args.at.now) c.args.call.now.f.now c.args.call.now.us.now c.args.g.now c.args.a.now _ _ c.args.steps.now.left c.requires.choice.2
    c.in-Some.test.says.rhs _ (rw c.in-Some.is at c.in_ok-test.ensures.is) (ap truth_of (sym c.rhs.ensures) ∙ sym c.in-None.ensures)

pub open_tested-requires-clause-choice : goal.open_tested-requires-clause-choice
open_tested-requires-clause-choice g c =
    let test = rw c.in-Some.is at c.in_ok-test.ensures.from in
    opened_if (defs_in c.args.l.now.r.now) _ _ _ _ _ _ _ _ c.requires.call c.requires.function c.requires.choice.2 test.lhs

pub returns-in-Some-truth_of-clause-is : goal.returns-in-Some-truth_of-clause-is
returns-in-Some-truth_of-clause-is g c =
    let test = rw c.in-Some.is at c.in_ok-test.ensures.from in
    from_steps (setting_of c.args.l.now.r.now) (inner_of c.args.l.now.r.now c.args.l.now.levels) c.args.mode (seen_at c.args.at.now) c.args.call.now.f.now (defs_in c.args.l.now.r.now) c.args.call.now.t.now _ _ _ c.in-Some.test.says.rhs _ _ c.args.steps.now.left _
    (opened_at (defs_in c.args.l.now.r.now) _ _ _ _ c.requires.call c.requires.function) test.lhs (rw c.in-Some.is at c.in_ok-test.ensures.is)
    c.open_tested.ensures.is
