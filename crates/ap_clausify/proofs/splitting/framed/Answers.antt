use Rattle.std.proofs.Common.{◌≡◌, [], subst, sym, rules}
use Rattle.ap_clausify.specs.Splitting.{split_of, settled_left}
use Rattle.ap_clausify.specs.Frames.{due, Waits}
use Rattle.ap_clausify.proofs.Placed.{choice_there}
use Rattle.ap_clausify.proofs.Framed.{opened_cases, opened_by, split_from, begins}
use Rattle.ap_clausify.proofs.Seen.{ready_cases}
use Rattle.ap_clausify.proofs.splitting.framed.Goals as goal

pub split_if-requires-clause-choice : goal.split_if-requires-clause-choice
split_if-requires-clause-choice c = choice_there c.args.c c.args.place.literal c.args.place.at c.requires.choice

pub returns-clause-waits : goal.returns-clause-waits
returns-clause-waits c =
    let r = c.in_ok-split.split in
    let i = c.args.place.literal in
    let none : c.new.result ≡ [] = search rules in
    subst (λ ds. Waits c.args.w.now (record { split = r; done = ds; literal = i; tidy = c.args.tidy })) (sym none)
    (begins c.args.w.now r i c.args.tidy c.in_ok-split.ensures.stands (ready_cases c.args.c i c.args.place.at c.args.tidy r.says c.requires.choice c.in_ok-split.ensures.made c.requires.ready))

pub returns-clause-from : goal.returns-clause-from
returns-clause-from c = split_from c.args.c c.args.place.literal c.args.place.at c.in_ok-split.split.says c.in_ok-split.ensures.made

pub returns-clause-due : goal.returns-clause-due
returns-clause-due c = λ n.
    let r = c.in_ok-split.split in
    let i = c.args.place.literal in
    let none : c.new.result ≡ [] = search rules in
    subst (λ ds. settled_left (split_of n c.args.c) ≡ due (record { split = r; done = ds; literal = i; tidy = c.args.tidy }) n) (sym none)
    (opened_cases n c.args.c r i c.args.tidy (opened_by c.args.c i c.args.place.at r.says c.requires.choice c.in_ok-split.ensures.made))
