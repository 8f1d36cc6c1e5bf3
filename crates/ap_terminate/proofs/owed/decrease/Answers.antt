use Rattle.std.proofs.Common.{◌≡◌, map, zip, rules}
use Rattle.ap_term.specs.Terms.{subst_of}
use Rattle.ap_world.specs.Clauses.{flat}
use Rattle.ap_world.specs.Laws.{under}
use Rattle.ap_world.specs.Recursion.{less}
use Rattle.ap_terminate.proofs.Falling.{decrease_made}
use Rattle.ap_terminate.proofs.owed.decrease.Goals as goal

pub returns : goal.returns
returns c =
    let a : c.in_ok-at_call.at_call ≡ map (subst_of (zip c.args.formals.now c.args.call.now)) c.args.m.now = search rules in
    let f : c.in_ok-falls.falls ≡ less c.in_ok-at_call.at_call c.args.m.now = search rules in
    let e : c.in_ok-conjecture.conjecture ≡ under c.args.case.now.tests c.in_ok-falls.falls = search rules in
    let h : c.in_ok-clause.clause.0 ≡ flat c.in_ok-conjecture.conjecture = search rules in
    decrease_made c.args.formals.now c.args.m.now c.args.case.now c.args.call.now c.in_ok-at_call.at_call c.in_ok-falls.falls c.in_ok-conjecture.conjecture c.in_ok-clause.clause a f e h
