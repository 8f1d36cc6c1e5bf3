use Rattle.std.proofs.Common.{◌≡◌, ◌∙◌, true, sym, ap, subst}
use Rattle.ap_term.specs.declared.term.Term.{Term}
use Rattle.ap_world.specs.Clauses.{not_of}
use Rattle.ap_world.specs.Sound.{known}
use Rattle.ap_kernel.proofs.ChoicesStand.{known_not}
use Rattle.ap_rewrite.specs.Answering.{defs_in, setting_of, inner_of, seen_at}
use Rattle.ap_rewrite.proofs.Froms.{from_own, from_at}
use Rattle.ap_rewrite.proofs.Branched.{not_goes, not_out}
use Rattle.ap_rewrite.proofs.branching.rewrite_not.Goals as goal

pub turned-requires-clause-term : goal.turned-requires-clause-term
turned-requires-clause-term g c =
    let h = rw c.in-Some.is at c.in_ok-q.ensures.from in
    c.requires.term ∙ ap not_of (sym h.lhs)

pub turned-requires-clause-known : goal.turned-requires-clause-known
turned-requires-clause-known g c =
    subst (λ (u : Term). known (defs_in c.args.l.now.r.now) u ≡ true) (sym c.requires.term)
    (known_not (defs_in c.args.l.now.r.now) c.requires.level.ready.ground c.args.a.now c.requires.argument)

pub turned-requires-clause-argument : goal.turned-requires-clause-argument
turned-requires-clause-argument g c = from_own _ _ _ _ _ (rw c.in-Some.is at c.in_ok-q.ensures.from)

pub returns-in_default-clause-is : goal.returns-in_default-clause-is
returns-in_default-clause-is g c =
    not_out (setting_of c.args.l.now.r.now) (inner_of c.args.l.now.r.now c.args.l.now.levels) c.args.mode (seen_at c.args.at.now) _ _ (rw c.in_default.is at c.in_ok-q.ensures.is)

pub returns-clause-is : goal.returns-clause-is
returns-clause-is g c =
    not_goes (setting_of c.args.l.now.r.now) (inner_of c.args.l.now.r.now c.args.l.now.levels) c.args.mode (seen_at c.args.at.now) _ _ _ _ _ (rw c.in-Some.is at c.in_ok-q.ensures.is) c.in_ok-answer.ensures.is

pub returns-clause-from : goal.returns-clause-from
returns-clause-from g c =
    let h = rw c.in-Some.is at c.in_ok-q.ensures.from in
    from_at _ _ _ _ _ _ (ap not_of h.lhs) c.in_ok-answer.ensures.from
