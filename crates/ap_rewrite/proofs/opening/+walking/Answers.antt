use Rattle.std.proofs.Common.{◌+◌, ◌*◌, ◌<◌, sym, ap, ◌∙◌, subst, rules}
use Rattle.ap_term.specs.declared.term.Term.{Term}
use Rattle.ap_term.specs.Terms.{term_size}
use Rattle.ap_world.specs.Facts.{KnownFacts}
use Rattle.ap_kernel.specs.declared.objects.Ctx.{Ctx}
use Rattle.ap_kernel.specs.Answers.{if_of}
use Rattle.ap_rewrite.specs.Rewriting.{truth_of}
use Rattle.ap_rewrite.specs.Answering.{defs_in, setting_of, inner_of, seen_at, seat_of}
use Rattle.ap_rewrite.proofs.Froms.{from_own}
use Rattle.ap_rewrite.proofs.Chained.{same_answer, same_from}
use Rattle.ap_rewrite.proofs.Walked.{past_chosen, past_open, walk_out, walk_past, leaf_at, seen_parts, same_place, from_there, branches_smaller, branch_smaller}
use Rattle.ap_rewrite.proofs.opening.+walking.Goals as goal

-- past an `if`: the branch that a constant chooses
pub walk_on-step_down-requires-clause-sign : goal.walk_on-step_down-requires-clause-sign
walk_on-step_down-requires-clause-sign g t c = ap truth_of (sym c.rhs.ensures) ∙ sym c.in-Some.ensures

pub walk_on-walk-requires : goal.walk_on-walk-requires
walk_on-walk-requires g t c =
    let smaller : 3 * term_size c.in_ok-next-in-Some.next.says.rhs + 2 < 3 * (term_size c.args.b.now + term_size c.args.c.now) + 3 =
    branch_smaller c.in-Some.sign c.in_ok-next-in-Some.next.says.rhs c.args.b.now c.args.c.now c.in_ok-next-in-Some.ensures.is in
    λ κs within. (search rules, (within.0, (within.1, (c.requires.level, (c.requires.facts, (c.requires.inner, (from_own _ _ _ _ _ c.in_ok-next-in-Some.ensures.from, c.requires.here)))))))

pub walk_on-returns-in_ok-next-in-Some-clause-is : goal.walk_on-returns-in_ok-next-in-Some-clause-is
walk_on-returns-in_ok-next-in-Some-clause-is g t c =
    same_answer _ _ _ _
    (past_chosen (setting_of c.args.l.now.r.now) (inner_of c.args.l.now.r.now c.args.l.now.levels) c.args.way.now.mode (seen_at c.args.way.now.at.now) (seen_at c.args.way.now.inner.now) c.args.way.now.taken c.args.test.says.rhs c.args.b.now c.args.c.now c.args.steps.now.left _ _
    (ap truth_of (sym c.rhs.ensures) ∙ sym c.in-Some.ensures) c.in_ok-next-in-Some.ensures.is)
    c.walk.ensures.is

pub walk_on-returns-in_ok-next-in-Some-clause-from : goal.walk_on-returns-in_ok-next-in-Some-clause-from
walk_on-returns-in_ok-next-in-Some-clause-from g t c = same_from _ _ _ _ _ _ c.in_ok-next-in-Some.ensures.from.lhs c.walk.ensures.from

-- the end
pub walk_on-walk_ends-requires-clause-facts : goal.walk_on-walk_ends-requires-clause-facts
walk_on-walk_ends-requires-clause-facts g t c = subst (λ (x : Ctx). KnownFacts (defs_in c.args.l.now.r.now) x.0) (sym c.requires.inner) c.requires.facts

pub walk_on-walk_ends-requires-clause-sofar : goal.walk_on-walk_ends-requires-clause-sofar
walk_on-walk_ends-requires-clause-sofar g t c = from_there _ _ _ _ _ _ (sym c.requires.inner) c.requires.sofar

pub walk_on-walk_ends-requires-clause-test : goal.walk_on-walk_ends-requires-clause-test
walk_on-walk_ends-requires-clause-test g t c = from_there _ _ _ _ _ _ (sym c.requires.inner) c.requires.test

pub walk_on-walk_ends-requires-clause-open : goal.walk_on-walk_ends-requires-clause-open
walk_on-walk_ends-requires-clause-open g t c = ap truth_of (sym c.rhs.ensures) ∙ sym c.in-None.ensures

pub walk_on-returns-in-None-clause-is : goal.walk_on-returns-in-None-clause-is
walk_on-returns-in-None-clause-is g t c =
    same_answer _ _ _ _
    (past_open (setting_of c.args.l.now.r.now) (inner_of c.args.l.now.r.now c.args.l.now.levels) c.args.way.now.mode (seen_at c.args.way.now.at.now) (seen_at c.args.way.now.inner.now) c.args.way.now.taken c.args.test.says.rhs c.args.b.now c.args.c.now c.args.steps.now.left
    (ap truth_of (sym c.rhs.ensures) ∙ sym c.in-None.ensures))
    c.walk_ends.ensures.is

pub walk_on-returns-in-None-clause-from : goal.walk_on-returns-in-None-clause-from
walk_on-returns-in-None-clause-from g t c = same_place _ _ _ _ _ _ c.requires.inner c.walk_ends.ensures.from

-- at an `if`
pub walk_body-deeper-requires-clause-term : goal.walk_body-deeper-requires-clause-term
walk_body-deeper-requires-clause-term g t c = (seen_parts _ _ _ _ _ _ _ _ _ c.requires.sofar c.requires.body c.in-If.ensures).1

pub walk_body-returns-in-None-clause-is : goal.walk_body-returns-in-None-clause-is
walk_body-returns-in-None-clause-is g t c =
    walk_out (setting_of c.args.l.now.r.now) (inner_of c.args.l.now.r.now c.args.l.now.levels) c.args.way.now.mode (seen_at c.args.way.now.at.now) (seen_at c.args.way.now.inner.now) _ _ _ _ c.args.way.now.taken c.args.steps.now.left
    (seen_parts _ _ _ _ _ _ _ _ _ c.requires.sofar c.requires.body c.in-If.ensures).0
    (rw c.in-None.is at c.in_ok-deeper-in-If.ensures.is)

pub walk_body-walk_on-requires : goal.walk_body-walk_on-requires
walk_body-walk_on-requires g t c =
    let choice = (seen_parts _ _ _ _ _ _ _ _ _ c.requires.sofar c.requires.body c.in-If.ensures).0 in
    let test = rw c.in-Some.is at c.in_ok-deeper-in-If.ensures.from in
    let smaller : 3 * (term_size c.in-If.b.now + term_size c.in-If.c.now) + 3 < 3 * term_size c.args.sofar.says.rhs + 1 = branches_smaller c.args.sofar.says.rhs c.in-If.a.now c.in-If.b.now c.in-If.c.now choice in
    λ κs within. (
      search rules,
      (
        within.0,
        (
          within.1,
          (
            c.requires.level,
            (
              c.requires.facts,
              (
                c.requires.inner,
                (
                  c.requires.sofar,
                  (from_own _ _ _ _ _ test, (choice ∙ ap (λ (x : Term). if_of x c.in-If.b.now c.in-If.c.now) (sym test.lhs), ap seat_of c.deeper.ensures.kept ∙ c.requires.here)),
                ),
              ),
            ),
          ),
        ),
      ),
    )

pub walk_body-returns-in-Some-clause-is : goal.walk_body-returns-in-Some-clause-is
walk_body-returns-in-Some-clause-is g t c =
    same_answer _ _ _ _
    (walk_past (setting_of c.args.l.now.r.now) (inner_of c.args.l.now.r.now c.args.l.now.levels) c.args.way.now.mode (seen_at c.args.way.now.at.now) (seen_at c.args.way.now.inner.now) _ _ _ _ _ c.args.way.now.taken c.args.steps.now.left _
    (seen_parts _ _ _ _ _ _ _ _ _ c.requires.sofar c.requires.body c.in-If.ensures).0
    (rw c.in-Some.is at c.in_ok-deeper-in-If.ensures.is))
    c.walk_on.ensures.is

pub walk_body-returns-in_default-clause-is : goal.walk_body-returns-in_default-clause-is
walk_body-returns-in_default-clause-is g t c =
    same_answer _ _ _ _
    (sym (leaf_at (setting_of c.args.l.now.r.now) (inner_of c.args.l.now.r.now c.args.l.now.levels) c.args.way.now.mode (seen_at c.args.way.now.at.now) (seen_at c.args.way.now.inner.now) c.args.body.now c.args.sofar.says.rhs c.shape_of.result c.args.way.now.taken c.args.steps.now.left
    c.requires.body c.shape_of.ensures c.in_default.not-If))
    c.walk_stops.ensures.is

-- the body, copied
pub walk-walk_body-requires : goal.walk-walk_body-requires
walk-walk_body-requires g t c = λ κs within. (search rules, (within.0, (within.1, (c.requires.level, (c.requires.facts, (c.requires.inner, (c.requires.sofar, (c.in_ok-body.ensures ∙ c.rhs.ensures, c.requires.here))))))))
