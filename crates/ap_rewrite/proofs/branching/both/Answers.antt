use Rattle.std.proofs.Common.{◌≡◌, true, sym, subst}
use Rattle.ap_term.specs.declared.term.Term.{Term}
use Rattle.ap_world.specs.Sound.{known}
use Rattle.ap_rewrite.specs.Answering.{defs_in, setting_of, inner_of, seen_at}
use Rattle.ap_kernel.proofs.CallsStand.{known_if}
use Rattle.ap_rewrite.proofs.Froms.{left_known, right_known}
use Rattle.ap_rewrite.proofs.Branched.{both_out, both_is, branches_own, if_whole, if_lefts}
use Rattle.ap_rewrite.proofs.branching.both.Goals as goal

pub in_branches-requires-clause-test : goal.in_branches-requires-clause-test
in_branches-requires-clause-test g c = subst (λ (u : Term). known (defs_in c.args.l.now.r.now) u ≡ true) (sym c.rhs.ensures) (right_known _ _ _ _ _ c.requires.test)

pub shape_whole-requires-clause-term : goal.shape_whole-requires-clause-term
shape_whole-requires-clause-term g c =
    let found = rw c.in-Some.is at c.in_ok-found.ensures.from in
    if_lefts _ _ _ _ _ _ c.requires.term found.yes.lhs found.no.lhs

pub shape_whole-requires-clause-known : goal.shape_whole-requires-clause-known
shape_whole-requires-clause-known g c =
    subst (λ (u : Term). known (defs_in c.args.l.now.r.now) u ≡ true) (sym c.requires.term)
    (known_if (defs_in c.args.l.now.r.now) _ _ _ (left_known _ _ _ _ _ c.requires.test) c.requires.yes c.requires.no)

pub shape_whole-requires-clause-found : goal.shape_whole-requires-clause-found
shape_whole-requires-clause-found g c = branches_own _ _ _ _ _ _ _ _ c.rhs.ensures (rw c.in-Some.is at c.in_ok-found.ensures.from)

pub returns-in_default-clause-is : goal.returns-in_default-clause-is
returns-in_default-clause-is g c =
    both_out (setting_of c.args.l.now.r.now) (inner_of c.args.l.now.r.now c.args.l.now.levels) c.args.mode (seen_at c.args.at.now) _ _ _ _ _ c.rhs.ensures (rw c.in_default.is at c.in_ok-found.ensures.is)

pub returns-clause-is : goal.returns-clause-is
returns-clause-is g c =
    both_is (setting_of c.args.l.now.r.now) (inner_of c.args.l.now.r.now c.args.l.now.levels) c.args.mode (seen_at c.args.at.now) _ _ _ _ _ _ _ _ _ c.rhs.ensures
    (rw c.in-Some.is at c.in_ok-found.ensures.is) c.in_ok-whole.ensures.is

pub returns-clause-from : goal.returns-clause-from
returns-clause-from g c =
    let found = rw c.in-Some.is at c.in_ok-found.ensures.from in
    if_whole _ _ _ _ _ _ _ _ _ found.yes.lhs found.no.lhs c.in_ok-whole.ensures.from
