use Rattle.std.proofs.Common.{◌∙◌}
use Rattle.ap_rewrite.specs.Answering.{inner_of, seen_at}
use Rattle.ap_rewrite.proofs.Chained.{run_some, run_none, settle_some, settle_none, equate_out, equate_some, equate_none, arithmetic_out, arithmetic_some, arithmetic_none, rules_out, rules_some, rules_none, same_answer}
use Rattle.ap_rewrite.proofs.engines.tried.Goals as goal

-- running, and settling by a type
pub returns-in-Some-clause-is : goal.returns-in-Some-clause-is
returns-in-Some-clause-is g c =
    run_some c.args.l.now.r.now.w.now c.args.l.now.r.now.theory.now c.args.l.now.r.now.expand.now (inner_of c.args.l.now.r.now c.args.l.now.levels) c.args.mode (seen_at c.args.at.now) c.args.f.now c.args.us.now c.args.t.now c.args.steps.now.left c.requires.call _ (rw c.in-Some.is at c.in_ok-q.ensures.is)

pub returns-in-Some-2-clause-is : goal.returns-in-Some-2-clause-is
returns-in-Some-2-clause-is g c =
    settle_some c.args.l.now.r.now.w.now c.args.l.now.r.now.theory.now c.args.l.now.r.now.expand.now (inner_of c.args.l.now.r.now c.args.l.now.levels) c.args.mode (seen_at c.args.at.now) c.args.f.now c.args.us.now c.args.t.now c.args.steps.now.left c.requires.call _ (rw c.in-Some-2.is at c.in_ok-q-2.ensures.is)
    ∙ run_none c.args.l.now.r.now.w.now c.args.l.now.r.now.theory.now c.args.l.now.r.now.expand.now (inner_of c.args.l.now.r.now c.args.l.now.levels) c.args.mode (seen_at c.args.at.now) c.args.f.now c.args.us.now c.args.t.now c.args.steps.now.left c.requires.call (rw c.in_default.is at c.in_ok-q.ensures.is)

-- an equation
pub returns-in-None-clause-is : goal.returns-in-None-clause-is
returns-in-None-clause-is g c =
    equate_out c.args.l.now.r.now.w.now c.args.l.now.r.now.theory.now c.args.l.now.r.now.expand.now (inner_of c.args.l.now.r.now c.args.l.now.levels) c.args.mode (seen_at c.args.at.now) c.args.f.now c.args.us.now c.args.t.now c.args.steps.now.left c.requires.call (rw c.in-None.is at c.in_ok-equate.ensures.is)
    ∙ settle_none c.args.l.now.r.now.w.now c.args.l.now.r.now.theory.now c.args.l.now.r.now.expand.now (inner_of c.args.l.now.r.now c.args.l.now.levels) c.args.mode (seen_at c.args.at.now) c.args.f.now c.args.us.now c.args.t.now c.args.steps.now.left c.requires.call (rw c.in_default-2.is at c.in_ok-q-2.ensures.is)
    ∙ run_none c.args.l.now.r.now.w.now c.args.l.now.r.now.theory.now c.args.l.now.r.now.expand.now (inner_of c.args.l.now.r.now c.args.l.now.levels) c.args.mode (seen_at c.args.at.now) c.args.f.now c.args.us.now c.args.t.now c.args.steps.now.left c.requires.call (rw c.in_default.is at c.in_ok-q.ensures.is)

pub returns-in-Some-Applied-clause-is : goal.returns-in-Some-Applied-clause-is
returns-in-Some-Applied-clause-is g c =
    equate_some c.args.l.now.r.now.w.now c.args.l.now.r.now.theory.now c.args.l.now.r.now.expand.now (inner_of c.args.l.now.r.now c.args.l.now.levels) c.args.mode (seen_at c.args.at.now) c.args.f.now c.args.us.now c.args.t.now c.args.steps.now.left c.requires.call _ _ (rw (c.in-Some-Applied.is, c.in-Some-Applied.field-0-is) at c.in_ok-equate.ensures.is)
    ∙ settle_none c.args.l.now.r.now.w.now c.args.l.now.r.now.theory.now c.args.l.now.r.now.expand.now (inner_of c.args.l.now.r.now c.args.l.now.levels) c.args.mode (seen_at c.args.at.now) c.args.f.now c.args.us.now c.args.t.now c.args.steps.now.left c.requires.call (rw c.in_default-2.is at c.in_ok-q-2.ensures.is)
    ∙ run_none c.args.l.now.r.now.w.now c.args.l.now.r.now.theory.now c.args.l.now.r.now.expand.now (inner_of c.args.l.now.r.now c.args.l.now.levels) c.args.mode (seen_at c.args.at.now) c.args.f.now c.args.us.now c.args.t.now c.args.steps.now.left c.requires.call (rw c.in_default.is at c.in_ok-q.ensures.is)

-- arithmetic
pub returns-in-None-2-clause-is : goal.returns-in-None-2-clause-is
returns-in-None-2-clause-is g c =
    arithmetic_out c.args.l.now.r.now.w.now c.args.l.now.r.now.theory.now c.args.l.now.r.now.expand.now (inner_of c.args.l.now.r.now c.args.l.now.levels) c.args.mode (seen_at c.args.at.now) c.args.f.now c.args.us.now c.args.t.now c.equate.new.steps.left c.requires.call (rw c.in-None-2.is at c.in_ok-by_arithmetic.ensures.is)
    ∙ equate_none c.args.l.now.r.now.w.now c.args.l.now.r.now.theory.now c.args.l.now.r.now.expand.now (inner_of c.args.l.now.r.now c.args.l.now.levels) c.args.mode (seen_at c.args.at.now) c.args.f.now c.args.us.now c.args.t.now c.args.steps.now.left c.requires.call _ (rw (c.in-Some-PassedBy.is, c.in-Some-PassedBy.field-0-is) at c.in_ok-equate.ensures.is)
    ∙ settle_none c.args.l.now.r.now.w.now c.args.l.now.r.now.theory.now c.args.l.now.r.now.expand.now (inner_of c.args.l.now.r.now c.args.l.now.levels) c.args.mode (seen_at c.args.at.now) c.args.f.now c.args.us.now c.args.t.now c.args.steps.now.left c.requires.call (rw c.in_default-2.is at c.in_ok-q-2.ensures.is)
    ∙ run_none c.args.l.now.r.now.w.now c.args.l.now.r.now.theory.now c.args.l.now.r.now.expand.now (inner_of c.args.l.now.r.now c.args.l.now.levels) c.args.mode (seen_at c.args.at.now) c.args.f.now c.args.us.now c.args.t.now c.args.steps.now.left c.requires.call (rw c.in_default.is at c.in_ok-q.ensures.is)

pub returns-in-Some-Applied-2-clause-is : goal.returns-in-Some-Applied-2-clause-is
returns-in-Some-Applied-2-clause-is g c =
    arithmetic_some c.args.l.now.r.now.w.now c.args.l.now.r.now.theory.now c.args.l.now.r.now.expand.now (inner_of c.args.l.now.r.now c.args.l.now.levels) c.args.mode (seen_at c.args.at.now) c.args.f.now c.args.us.now c.args.t.now c.equate.new.steps.left c.requires.call _ _ (rw (c.in-Some-Applied-2.is, c.in-Some-Applied-2.field-0-is) at c.in_ok-by_arithmetic.ensures.is)
    ∙ equate_none c.args.l.now.r.now.w.now c.args.l.now.r.now.theory.now c.args.l.now.r.now.expand.now (inner_of c.args.l.now.r.now c.args.l.now.levels) c.args.mode (seen_at c.args.at.now) c.args.f.now c.args.us.now c.args.t.now c.args.steps.now.left c.requires.call _ (rw (c.in-Some-PassedBy.is, c.in-Some-PassedBy.field-0-is) at c.in_ok-equate.ensures.is)
    ∙ settle_none c.args.l.now.r.now.w.now c.args.l.now.r.now.theory.now c.args.l.now.r.now.expand.now (inner_of c.args.l.now.r.now c.args.l.now.levels) c.args.mode (seen_at c.args.at.now) c.args.f.now c.args.us.now c.args.t.now c.args.steps.now.left c.requires.call (rw c.in_default-2.is at c.in_ok-q-2.ensures.is)
    ∙ run_none c.args.l.now.r.now.w.now c.args.l.now.r.now.theory.now c.args.l.now.r.now.expand.now (inner_of c.args.l.now.r.now c.args.l.now.levels) c.args.mode (seen_at c.args.at.now) c.args.f.now c.args.us.now c.args.t.now c.args.steps.now.left c.requires.call (rw c.in_default.is at c.in_ok-q.ensures.is)

-- rules
pub returns-in-None-3-clause-is : goal.returns-in-None-3-clause-is
returns-in-None-3-clause-is g c =
    rules_out c.args.l.now.r.now.w.now c.args.l.now.r.now.theory.now c.args.l.now.r.now.expand.now (inner_of c.args.l.now.r.now c.args.l.now.levels) c.args.mode (seen_at c.args.at.now) c.args.f.now c.args.us.now c.args.t.now c.by_arithmetic.new.steps.left c.requires.call (rw c.in-None-3.is at c.in_ok-by_rules.ensures.is)
    ∙ arithmetic_none c.args.l.now.r.now.w.now c.args.l.now.r.now.theory.now c.args.l.now.r.now.expand.now (inner_of c.args.l.now.r.now c.args.l.now.levels) c.args.mode (seen_at c.args.at.now) c.args.f.now c.args.us.now c.args.t.now c.equate.new.steps.left c.requires.call _ (rw (c.in-Some-PassedBy-2.is, c.in-Some-PassedBy-2.field-0-is) at c.in_ok-by_arithmetic.ensures.is)
    ∙ equate_none c.args.l.now.r.now.w.now c.args.l.now.r.now.theory.now c.args.l.now.r.now.expand.now (inner_of c.args.l.now.r.now c.args.l.now.levels) c.args.mode (seen_at c.args.at.now) c.args.f.now c.args.us.now c.args.t.now c.args.steps.now.left c.requires.call _ (rw (c.in-Some-PassedBy.is, c.in-Some-PassedBy.field-0-is) at c.in_ok-equate.ensures.is)
    ∙ settle_none c.args.l.now.r.now.w.now c.args.l.now.r.now.theory.now c.args.l.now.r.now.expand.now (inner_of c.args.l.now.r.now c.args.l.now.levels) c.args.mode (seen_at c.args.at.now) c.args.f.now c.args.us.now c.args.t.now c.args.steps.now.left c.requires.call (rw c.in_default-2.is at c.in_ok-q-2.ensures.is)
    ∙ run_none c.args.l.now.r.now.w.now c.args.l.now.r.now.theory.now c.args.l.now.r.now.expand.now (inner_of c.args.l.now.r.now c.args.l.now.levels) c.args.mode (seen_at c.args.at.now) c.args.f.now c.args.us.now c.args.t.now c.args.steps.now.left c.requires.call (rw c.in_default.is at c.in_ok-q.ensures.is)

pub returns-in-Some-Applied-3-clause-is : goal.returns-in-Some-Applied-3-clause-is
returns-in-Some-Applied-3-clause-is g c =
    rules_some c.args.l.now.r.now.w.now c.args.l.now.r.now.theory.now c.args.l.now.r.now.expand.now (inner_of c.args.l.now.r.now c.args.l.now.levels) c.args.mode (seen_at c.args.at.now) c.args.f.now c.args.us.now c.args.t.now c.by_arithmetic.new.steps.left c.requires.call _ _ (rw (c.in-Some-Applied-3.is, c.in-Some-Applied-3.field-0-is) at c.in_ok-by_rules.ensures.is)
    ∙ arithmetic_none c.args.l.now.r.now.w.now c.args.l.now.r.now.theory.now c.args.l.now.r.now.expand.now (inner_of c.args.l.now.r.now c.args.l.now.levels) c.args.mode (seen_at c.args.at.now) c.args.f.now c.args.us.now c.args.t.now c.equate.new.steps.left c.requires.call _ (rw (c.in-Some-PassedBy-2.is, c.in-Some-PassedBy-2.field-0-is) at c.in_ok-by_arithmetic.ensures.is)
    ∙ equate_none c.args.l.now.r.now.w.now c.args.l.now.r.now.theory.now c.args.l.now.r.now.expand.now (inner_of c.args.l.now.r.now c.args.l.now.levels) c.args.mode (seen_at c.args.at.now) c.args.f.now c.args.us.now c.args.t.now c.args.steps.now.left c.requires.call _ (rw (c.in-Some-PassedBy.is, c.in-Some-PassedBy.field-0-is) at c.in_ok-equate.ensures.is)
    ∙ settle_none c.args.l.now.r.now.w.now c.args.l.now.r.now.theory.now c.args.l.now.r.now.expand.now (inner_of c.args.l.now.r.now c.args.l.now.levels) c.args.mode (seen_at c.args.at.now) c.args.f.now c.args.us.now c.args.t.now c.args.steps.now.left c.requires.call (rw c.in_default-2.is at c.in_ok-q-2.ensures.is)
    ∙ run_none c.args.l.now.r.now.w.now c.args.l.now.r.now.theory.now c.args.l.now.r.now.expand.now (inner_of c.args.l.now.r.now c.args.l.now.levels) c.args.mode (seen_at c.args.at.now) c.args.f.now c.args.us.now c.args.t.now c.args.steps.now.left c.requires.call (rw c.in_default.is at c.in_ok-q.ensures.is)

-- the definition
pub returns-clause-is : goal.returns-clause-is
returns-clause-is g c =
    same_answer _ _ _ _
    (rules_none c.args.l.now.r.now.w.now c.args.l.now.r.now.theory.now c.args.l.now.r.now.expand.now (inner_of c.args.l.now.r.now c.args.l.now.levels) c.args.mode (seen_at c.args.at.now) c.args.f.now c.args.us.now c.args.t.now c.by_arithmetic.new.steps.left c.requires.call _ (rw (c.in-Some-PassedBy-3.is, c.in-Some-PassedBy-3.field-0-is) at c.in_ok-by_rules.ensures.is)
    ∙ arithmetic_none c.args.l.now.r.now.w.now c.args.l.now.r.now.theory.now c.args.l.now.r.now.expand.now (inner_of c.args.l.now.r.now c.args.l.now.levels) c.args.mode (seen_at c.args.at.now) c.args.f.now c.args.us.now c.args.t.now c.equate.new.steps.left c.requires.call _ (rw (c.in-Some-PassedBy-2.is, c.in-Some-PassedBy-2.field-0-is) at c.in_ok-by_arithmetic.ensures.is)
    ∙ equate_none c.args.l.now.r.now.w.now c.args.l.now.r.now.theory.now c.args.l.now.r.now.expand.now (inner_of c.args.l.now.r.now c.args.l.now.levels) c.args.mode (seen_at c.args.at.now) c.args.f.now c.args.us.now c.args.t.now c.args.steps.now.left c.requires.call _ (rw (c.in-Some-PassedBy.is, c.in-Some-PassedBy.field-0-is) at c.in_ok-equate.ensures.is)
    ∙ settle_none c.args.l.now.r.now.w.now c.args.l.now.r.now.theory.now c.args.l.now.r.now.expand.now (inner_of c.args.l.now.r.now c.args.l.now.levels) c.args.mode (seen_at c.args.at.now) c.args.f.now c.args.us.now c.args.t.now c.args.steps.now.left c.requires.call (rw c.in_default-2.is at c.in_ok-q-2.ensures.is)
    ∙ run_none c.args.l.now.r.now.w.now c.args.l.now.r.now.theory.now c.args.l.now.r.now.expand.now (inner_of c.args.l.now.r.now c.args.l.now.levels) c.args.mode (seen_at c.args.at.now) c.args.f.now c.args.us.now c.args.t.now c.args.steps.now.left c.requires.call (rw c.in_default.is at c.in_ok-q.ensures.is))
    c.by_definition.ensures.is
