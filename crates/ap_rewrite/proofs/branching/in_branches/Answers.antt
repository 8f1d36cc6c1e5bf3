use Rattle.ap_rewrite.specs.Answering.{inner_of, seen_at, setting_of}
use Rattle.ap_rewrite.proofs.Branched.{branches_out, no_out, branches_are}
use Rattle.ap_rewrite.proofs.branching.in_branches.Goals as goal

pub returns-in_default-clause-is : goal.returns-in_default-clause-is
returns-in_default-clause-is g c =
    branches_out (setting_of c.args.l.now.r.now) (inner_of c.args.l.now.r.now c.args.l.now.levels) c.args.mode (seen_at c.args.at.now) _ _ _ _ (rw c.in_default.is at c.in_ok-yes.ensures.is)

pub returns-in_default-2-clause-is : goal.returns-in_default-2-clause-is
returns-in_default-2-clause-is g c =
    no_out (setting_of c.args.l.now.r.now) (inner_of c.args.l.now.r.now c.args.l.now.levels) c.args.mode (seen_at c.args.at.now) _ _ _ _ _ _ (rw c.in-Some.is at c.in_ok-yes.ensures.is)
    (rw c.in_default-2.is at c.in_ok-no.ensures.is)

pub returns-clause-is : goal.returns-clause-is
returns-clause-is g c =
    branches_are (setting_of c.args.l.now.r.now) (inner_of c.args.l.now.r.now c.args.l.now.levels) c.args.mode (seen_at c.args.at.now) _ _ _ _ _ _ _ _ (rw c.in-Some.is at c.in_ok-yes.ensures.is)
    (rw c.in-Some-2.is at c.in_ok-no.ensures.is)

pub returns-clause-from : goal.returns-clause-from
returns-clause-from g c = record { yes = rw c.in-Some.is at c.in_ok-yes.ensures.from; no = rw c.in-Some-2.is at c.in_ok-no.ensures.from }
