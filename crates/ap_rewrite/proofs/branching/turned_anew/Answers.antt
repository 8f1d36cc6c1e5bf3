use Rattle.std.proofs.Common.{◌≡◌, ◌∙◌, sym, subst, true}
use Rattle.ap_term.specs.declared.term.Term.{Term}
use Rattle.ap_world.specs.Sound.{known}
use Rattle.ap_rewrite.specs.Answering.{defs_in}
use Rattle.ap_rewrite.proofs.Froms.{from_own, from_at, followed_from, right_known}
use Rattle.ap_rewrite.proofs.branching.turned_anew.Goals as goal

pub plainest-requires-clause-term : goal.plainest-requires-clause-term
plainest-requires-clause-term g c = subst (λ (u : Term). known (defs_in c.args.r.now) u ≡ true) (sym c.rhs.ensures) (right_known _ _ _ _ _ c.in_ok-first.ensures.from)

pub plainest-requires-clause-negation : goal.plainest-requires-clause-negation
plainest-requires-clause-negation g c = (c.args.q.says.rhs, c.rhs.ensures ∙ c.in_ok-first.ensures.is)

pub follow-requires-clause-first : goal.follow-requires-clause-first
follow-requires-clause-first g c = from_own _ _ _ _ _ c.in_ok-first.ensures.from

pub follow-requires-clause-second : goal.follow-requires-clause-second
follow-requires-clause-second g c = from_at _ _ _ _ _ _ c.rhs.ensures c.in_ok-more.ensures.from

pub returns-clause-is : goal.returns-clause-is
returns-clause-is g c = c.in_ok-answer.ensures.is ∙ c.in_ok-more.ensures.is _ (c.rhs.ensures ∙ c.in_ok-first.ensures.is)

pub returns-clause-from : goal.returns-clause-from
returns-clause-from g c = followed_from _ _ _ _ _ _ c.in_ok-first.ensures.from c.in_ok-answer.ensures.from
