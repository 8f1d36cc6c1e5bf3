use Rattle.std.proofs.Common.{◌≡◌, ◌++◌, ◌∷◌, [], rules}
use Rattle.ap_clausify.proofs.Framed.{taken, goes_from}
use Rattle.ap_clausify.proofs.splitting.advance.Goals as goal

pub close-requires-clause-linked : goal.close-requires-clause-linked
close-requires-clause-linked c =
    let e : c.args.state.frames ≡ c.pop.new.self ++ c.in-Some.frame ∷ [] = search rules in
    (taken c.args.w.now c.args.state.frames c.pop.new.self c.in-Some.frame c.args.state.task c.in-Done.r e c.in-Done.is c.requires.linked).0

pub close-requires-clause-waits : goal.close-requires-clause-waits
close-requires-clause-waits c =
    let e : c.args.state.frames ≡ c.pop.new.self ++ c.in-Some.frame ∷ [] = search rules in
    (taken c.args.w.now c.args.state.frames c.pop.new.self c.in-Some.frame c.args.state.task c.in-Done.r e c.in-Done.is c.requires.linked).1

pub close-requires-clause-case : goal.close-requires-clause-case
close-requires-clause-case c =
    let e : c.args.state.frames ≡ c.pop.new.self ++ c.in-Some.frame ∷ [] = search rules in
    (taken c.args.w.now c.args.state.frames c.pop.new.self c.in-Some.frame c.args.state.task c.in-Done.r e c.in-Done.is c.requires.linked).2

pub returns-in_ok-turn-in-Some : goal.returns-in_ok-turn-in-Some
returns-in_ok-turn-in-Some c =
    let e : c.args.state.frames ≡ c.pop.new.self ++ c.in-Some.frame ∷ [] = search rules in
    goes_from c.args.w.now c.args.state.frames c.pop.new.self c.in-Some.frame c.args.state.task c.in-Done.r c.args.steps.now.left c.close.new.steps.left c.in_ok-turn-in-Some.turn e c.in-Done.is c.in_ok-turn-in-Some.ensures
