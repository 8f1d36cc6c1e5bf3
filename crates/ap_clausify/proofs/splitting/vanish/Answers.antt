use Rattle.std.proofs.Common.{◌≡◌, ◌+◌, ◌*◌, ◌<◌, rules}
use Rattle.ap_clausify.specs.Leaves.{clause_leaves}
use Rattle.ap_clausify.proofs.VanishingGoes.{goes_nowhere, goes_vanished}
use Rattle.ap_clausify.proofs.splitting.vanish.Goals as goal

pub returns-then-not-spend_wholly : goal.returns-then-not-spend_wholly
returns-then-not-spend_wholly c =
    let out : c.args.steps.now.left + 2 < 2 * clause_leaves c.args.c = search rules in
    let none : c.spend_wholly.new.steps.left ≡ 0 = search rules in
    (goes_nowhere c.args.frames c.args.c c.args.steps.now.left out, none)

pub returns : goal.returns
returns c =
    let paid : c.spend_wholly.new.steps.left + 2 * clause_leaves c.args.c ≡ c.args.steps.now.left + 2 = search rules in
    goes_vanished c.args.w.now c.args.frames c.args.c c.in_ok-reduction.reduction c.args.steps.now.left c.spend_wholly.new.steps.left
    c.requires.linked c.in_ok-reduction.ensures.stands c.in_ok-reduction.ensures.made c.requires.vanishes paid
