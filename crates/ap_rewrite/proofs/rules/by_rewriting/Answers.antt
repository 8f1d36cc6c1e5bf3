use Rattle.std.proofs.Common.{◌∙◌, IfSome, Option, sym, ap, subst}
use Rattle.ap_rewrite.specs.declared.facts.Relieved.{Relieved}
use Rattle.ap_rewrite.specs.Relieved.{RelievedFrom}
use Rattle.ap_rewrite.specs.Answering.{where_applied, pairs_of, inner_of, seen_at}
use Rattle.ap_rewrite.proofs.Applied.{relieved_by, relieved_here, relieving_out}
use Rattle.ap_rewrite.proofs.rules.by_rewriting.Goals as goal

pub returns-in_default-clause-is : goal.returns-in_default-clause-is
returns-in_default-clause-is g c =
    relieving_out (inner_of c.args.l.now.r.now c.args.l.now.levels) (seen_at c.args.at.now) c.args.h.now c.args.s.0 c.args.steps.now.left c.requires.bound (rw c.in_default.is at c.in_ok-q.ensures.is)

pub where_true-requires-clause-stands : goal.where_true-requires-clause-stands
where_true-requires-clause-stands g c = let f = rw c.in-Some.is at c.in_ok-q.ensures.from in f.stands

pub where_true-requires-clause-mode : goal.where_true-requires-clause-mode
where_true-requires-clause-mode g c = let f = rw c.in-Some.is at c.in_ok-q.ensures.from in f.mode

pub returns-clause-is : goal.returns-clause-is
returns-clause-is g c =
    relieved_by (inner_of c.args.l.now.r.now c.args.l.now.levels) (seen_at c.args.at.now) c.args.h.now c.in-Some.q.says.rhs c.args.s.0 c.args.steps.now.left c.rewrite_instance.new.steps.left (where_applied c.from_found.result)
    c.requires.bound (rw c.in-Some.is at c.in_ok-q.ensures.is) (ap pairs_of c.from_found.ensures ∙ c.in_ok-found.ensures.is)

pub returns-clause-shown : goal.returns-clause-shown
returns-clause-shown g c =
    subst (λ (o : Option Relieved). IfSome o (RelievedFrom c.args.l.now.r.now.w.now c.args.at.now.ctx.now c.args.h.now c.args.s.0)) (sym c.from_found.ensures)
    (relieved_here c.args.l.now.r.now.w.now c.args.at.now.ctx.now c.args.h.now c.args.s c.in-Some.q c.in_ok-found.found
    (rw c.in-Some.is at c.in_ok-q.ensures.from) c.requires.bound c.requires.pairs c.in_ok-found.ensures.pairs c.in_ok-found.ensures.stands c.in_ok-found.ensures.made)
