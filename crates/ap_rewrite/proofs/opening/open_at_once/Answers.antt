use Rattle.std.proofs.Common.{nat_le, sym, ap, ◌∙◌}
use Rattle.ap_term.specs.declared.term.Term.{Term}
use Rattle.ap_term.specs.Terms.{term_size}
use Rattle.ap_rewrite.specs.Rewriting.{most_nodes}
use Rattle.ap_rewrite.specs.Answering.{defs_in, setting_of, inner_of, seen_at}
use Rattle.ap_rewrite.proofs.Froms.{from_own}
use Rattle.ap_rewrite.proofs.Chained.{same_answer, same_from}
use Rattle.ap_rewrite.proofs.Opened.{is_defined, instance_is, too_grown, let_in}
use Rattle.ap_rewrite.proofs.opening.open_at_once.Goals as goal

pub opened-requires-clause-defined : goal.opened-requires-clause-defined
opened-requires-clause-defined g c = is_defined _ _ _ _ _ c.requires.call c.requires.function

pub open_instance-requires-clause-first : goal.open_instance-requires-clause-first
open_instance-requires-clause-first g c = from_own _ _ _ _ _ c.in_ok-first.ensures.from

pub returns-then-not-is_small-clause-is : goal.returns-then-not-is_small-clause-is
returns-then-not-is_small-clause-is g c =
    too_grown (setting_of c.args.l.now.r.now) (inner_of c.args.l.now.r.now c.args.l.now.levels) c.args.mode (seen_at c.args.at.now) c.args.call.now.t.now c.args.call.now.f.now c.args.call.now.us.now c.args.g.now c.args.steps.now.left _
    (instance_is (defs_in c.args.l.now.r.now) _ _ _ _ _ c.requires.call c.requires.function c.in_ok-first.ensures.is)
    (ap (λ (x : Term). nat_le (term_size x) most_nodes) (sym c.rhs.ensures) ∙ sym c.is_small.ensures ∙ c.if-not-is_small.true)

pub returns-clause-from : goal.returns-clause-from
returns-clause-from g c = same_from _ _ _ _ _ _ c.in_ok-first.ensures.from.lhs c.open_instance.ensures.from

pub returns-clause-is : goal.returns-clause-is
returns-clause-is g c =
    same_answer _ _ _ _
    (let_in (setting_of c.args.l.now.r.now) (inner_of c.args.l.now.r.now c.args.l.now.levels) c.args.mode (seen_at c.args.at.now) c.args.call.now.t.now c.args.call.now.f.now c.args.call.now.us.now c.args.g.now c.args.steps.now.left c.in_ok-first.first.says.lhs _
    c.requires.enabled c.requires.free
    (instance_is (defs_in c.args.l.now.r.now) _ _ _ _ _ c.requires.call c.requires.function c.in_ok-first.ensures.is)
    (ap (λ (x : Term). nat_le (term_size x) most_nodes) (sym c.rhs.ensures) ∙ sym c.is_small.ensures ∙ c.if-not-is_small.false)
    c.in_ok-first.ensures.from.lhs)
    c.open_instance.ensures.is
