use Rattle.std.proofs.Common.{List, sym, ap, ◌∙◌, subst}
use Rattle.ap_list.specs.Lists.{is_among}
use Rattle.ap_term.specs.declared.term.Term.{Term}
use Rattle.ap_term.specs.Equal.{term_eq}
use Rattle.ap_world.specs.Facts.{KnownFacts}
use Rattle.ap_kernel.specs.declared.objects.Ctx.{Ctx}
use Rattle.ap_rewrite.specs.Answering.{defs_in, setting_of, inner_of, seen_at}
use Rattle.ap_rewrite.proofs.Chained.{answered_is, answered_from, same_answer}
use Rattle.ap_rewrite.proofs.Opened.{opened_whole, walked_down}
use Rattle.ap_rewrite.proofs.Walked.{from_there, same_found}
use Rattle.ap_rewrite.proofs.opening.open_within.Goals as goal

pub go_on_within-requires-clause-facts : goal.go_on_within-requires-clause-facts
go_on_within-requires-clause-facts g c = subst (λ (x : Ctx). KnownFacts (defs_in c.args.l.now.r.now) x.0) (sym c.requires.inner) c.requires.facts

pub go_on_within-requires-clause-first : goal.go_on_within-requires-clause-first
go_on_within-requires-clause-first g c = from_there _ _ _ _ _ _ (sym c.requires.inner) c.requires.first

pub returns-then-is_term_among-clause-is : goal.returns-then-is_term_among-clause-is
returns-then-is_term_among-clause-is g c =
    answered_is _ _ _ _ c.answered.ensures c.in_ok-found.ensures.is
    ∙ opened_whole (setting_of c.args.l.now.r.now) (inner_of c.args.l.now.r.now c.args.l.now.levels) c.args.mode (seen_at c.args.at.now) (seen_at c.args.inner.now) c.args.first.says.lhs c.args.first.says.rhs c.args.steps.now.left
    (ap (λ (u : Term). is_among term_eq u c.args.l.now.r.now.expand.now) (sym c.lhs.ensures) ∙ ap (λ (us : List Term). is_among term_eq c.lhs.result.now us) (sym c.as_slice.ensures) ∙ sym c.is_term_among.ensures ∙ c.if-is_term_among.true)

pub returns-then-is_term_among-clause-from : goal.returns-then-is_term_among-clause-from
returns-then-is_term_among-clause-from g c =
    answered_from _ _ _ _ _ _ c.answered.ensures (same_found _ _ _ _ _ _ c.requires.inner c.in_ok-found.ensures.from)

pub returns-clause-is : goal.returns-clause-is
returns-clause-is g c =
    same_answer _ _ _ _
    (walked_down (setting_of c.args.l.now.r.now) (inner_of c.args.l.now.r.now c.args.l.now.levels) c.args.mode (seen_at c.args.at.now) (seen_at c.args.inner.now) c.args.first.says.lhs c.args.first.says.rhs c.args.steps.now.left
    (ap (λ (u : Term). is_among term_eq u c.args.l.now.r.now.expand.now) (sym c.lhs.ensures) ∙ ap (λ (us : List Term). is_among term_eq c.lhs.result.now us) (sym c.as_slice.ensures) ∙ sym c.is_term_among.ensures ∙ c.if-is_term_among.false))
    c.walk.ensures.is
