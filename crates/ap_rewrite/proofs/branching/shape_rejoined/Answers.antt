use Rattle.std.proofs.Common.{◌≡◌, ◌∙◌, sym, subst, true}
use Rattle.ap_term.specs.declared.term.Term.{Term}
use Rattle.ap_world.specs.Sound.{known}
use Rattle.ap_rewrite.specs.Answering.{defs_in}
use Rattle.ap_rewrite.proofs.Froms.{from_own, from_at, followed_from, right_known}
use Rattle.ap_rewrite.proofs.branching.shape_rejoined.Goals as goal

pub simplest-requires-clause-term : goal.simplest-requires-clause-term
simplest-requires-clause-term g c = subst (λ (u : Term). known (defs_in c.args.r.now) u ≡ true) (sym c.rhs.ensures) (right_known _ _ _ _ _ c.in_ok-whole.ensures.from)

pub simplest-requires-clause-choice : goal.simplest-requires-clause-choice
simplest-requires-clause-choice g c = (c.args.test.says.rhs, c.args.found.yes.says.rhs, c.args.found.no.says.rhs, c.rhs.ensures ∙ c.in_ok-whole.ensures.is, c.requires.open)

pub follow-requires-clause-first : goal.follow-requires-clause-first
follow-requires-clause-first g c = from_own _ _ _ _ _ c.in_ok-whole.ensures.from

pub follow-requires-clause-second : goal.follow-requires-clause-second
follow-requires-clause-second g c = from_at _ _ _ _ _ _ c.rhs.ensures c.in_ok-more.ensures.from

pub returns-clause-is : goal.returns-clause-is
returns-clause-is g c = c.in_ok-q.ensures.is ∙ c.in_ok-more.ensures.is _ _ _ (c.rhs.ensures ∙ c.in_ok-whole.ensures.is)

pub returns-clause-from : goal.returns-clause-from
returns-clause-from g c = followed_from _ _ _ _ _ _ c.in_ok-whole.ensures.from c.in_ok-q.ensures.from

pub join-requires-clause-yes : goal.join-requires-clause-yes
join-requires-clause-yes g c = c.requires.found.yes

pub join-requires-clause-no : goal.join-requires-clause-no
join-requires-clause-no g c = c.requires.found.no
