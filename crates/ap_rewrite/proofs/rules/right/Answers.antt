use Rattle.std.proofs.Common.{◌∙◌, nat_le, IfSome, Option, refl, sym, ap, subst}
use Rattle.ap_term.specs.declared.term.Term.{Term}
use Rattle.ap_term.specs.Terms.{term_size, subst_of}
use Rattle.ap_kernel.specs.declared.objects.Equiv.{Equiv}
use Rattle.ap_rewrite.specs.declared.rewriter.Tried.{Tried}
use Rattle.ap_rewrite.specs.Rewriting.{most_nodes, answered}
use Rattle.ap_rewrite.specs.Answering.{where_applied, inner_of, seen_at, got_any, From}
use Rattle.ap_rewrite.proofs.Froms.{from_own, got_answered}
use Rattle.ap_rewrite.proofs.Ruled.{taken, passed, each_answered}
use Rattle.ap_rewrite.proofs.rules.right.Goals as goal

pub go_on-requires-clause-first : goal.go_on-requires-clause-first
go_on-requires-clause-first g c = from_own _ _ _ _ _ c.in_ok-first.ensures.from

pub returns-then-not-is_small-clause-is : goal.returns-then-not-is_small-clause-is
returns-then-not-is_small-clause-is g c =
    passed _ _ _ _ (ap (λ (u : Term). nat_le (term_size u) most_nodes) (sym (c.rhs.ensures ∙ c.in_ok-first.ensures.is)) ∙ sym c.is_small.ensures ∙ c.if-not-is_small.true) refl

pub returns-clause-is : goal.returns-clause-is
returns-clause-is g c =
    taken _ _ _ _ (ap (λ (u : Term). nat_le (term_size u) most_nodes) (sym (c.rhs.ensures ∙ c.in_ok-first.ensures.is)) ∙ sym c.is_small.ensures ∙ c.if-not-is_small.false)
    (ap (λ (o : Option (Tried Equiv)). got_any o c.go_on.new.steps.left) c.answered.ensures
    ∙ got_answered c.in_ok-found.found c.go_on.new.steps.left
    ∙ ap answered
    (c.in_ok-found.ensures.is ∙ ap (λ (u : Term). inner_of c.args.l.now.r.now c.args.l.now.levels c.args.mode (seen_at c.args.at.now) u c.args.steps.now.left) c.in_ok-first.ensures.is))

pub returns-clause-from : goal.returns-clause-from
returns-clause-from g c =
    let to = λ (u : Term) (q : Equiv). From c.args.l.now.r.now.w.now c.args.mode c.args.at.now.ctx.now u q in
    let from = c.in_ok-first.ensures.from in
    let u = subst_of c.args.found.pairs.0 c.args.g.now.lhs in
    subst (λ (x : Option (Tried Equiv)). IfSome x (λ a. IfSome (where_applied a) (to u))) (sym c.answered.ensures)
    (each_answered (to u) c.in_ok-found.found (subst (λ (t : Term). IfSome c.in_ok-found.found (to t)) from.lhs c.in_ok-found.ensures.from))
