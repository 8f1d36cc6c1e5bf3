use Rattle.std.proofs.Common.{◌≡◌, true, sym, subst}
use Rattle.ap_term.specs.declared.term.Term.{Term}
use Rattle.ap_world.specs.Sound.{known}
use Rattle.ap_rewrite.specs.Answering.{defs_in, setting_of, inner_of, seen_at}
use Rattle.ap_rewrite.proofs.Froms.{from_at, right_known}
use Rattle.ap_rewrite.proofs.Branched.{goes_on, goes_out}
use Rattle.ap_rewrite.proofs.branching.go_on.Goals as goal

pub deeper-requires-clause-term : goal.deeper-requires-clause-term
deeper-requires-clause-term g c = subst (λ (u : Term). known (defs_in c.args.l.now.r.now) u ≡ true) (sym c.rhs.ensures) (right_known _ _ _ _ _ c.requires.first)

pub follow-requires-clause-second : goal.follow-requires-clause-second
follow-requires-clause-second g c = from_at _ _ _ _ _ _ c.rhs.ensures (rw c.in-Some.is at c.in_ok-more.ensures.from)

pub returns-in_default-clause-is : goal.returns-in_default-clause-is
returns-in_default-clause-is g c =
    goes_out (setting_of c.args.l.now.r.now) (inner_of c.args.l.now.r.now c.args.l.now.levels) c.args.mode (seen_at c.args.at.now) _ _ _ c.rhs.ensures (rw c.in_default.is at c.in_ok-more.ensures.is)

pub returns-clause-is : goal.returns-clause-is
returns-clause-is g c =
    goes_on (setting_of c.args.l.now.r.now) (inner_of c.args.l.now.r.now c.args.l.now.levels) c.args.mode (seen_at c.args.at.now) _ _ _ _ _ _ c.rhs.ensures (rw c.in-Some.is at c.in_ok-more.ensures.is)
    c.in_ok-q.ensures.is
