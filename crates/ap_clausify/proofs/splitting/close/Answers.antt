use Rattle.std.proofs.Common.{◌≡◌, ◌+◌, ◌*◌, ◌++◌, ◌∷◌, [], Some, length, ap, sym, ◌∙◌, subst, rules}
use Rattle.ap_clausify.specs.Frames.{due, resumed, Goes}
use Rattle.ap_clausify.proofs.Framed.{closed_due, closed_waits}
use Rattle.ap_clausify.proofs.splitting.close.Goals as goal

pub go_on-requires-clause-waits : goal.go_on-requires-clause-waits
go_on-requires-clause-waits c =
    let e : c.push.new.self ≡ c.args.frame.done ++ c.args.r ∷ [] = search rules in
    rw e (closed_waits c.args.w.now c.args.frame c.args.r c.requires.waits c.requires.stands c.requires.case)

pub returns : goal.returns
returns c =
    let n = c.args.steps.now.left in
    let e : c.push.new.self ≡ c.args.frame.done ++ c.args.r ∷ [] = search rules in
    let same : due (record { split = c.args.frame.split; done = c.push.new.self; literal = c.args.frame.literal; tidy = c.args.frame.tidy }) n ≡ resumed c.args.frame (Some (c.args.r.says.to, n)) =
    ap (λ rs. due (record { split = c.args.frame.split; done = rs; literal = c.args.frame.literal; tidy = c.args.frame.tidy }) n) e ∙ sym (closed_due c.args.frame c.args.r n) in
    subst (λ o. Goes c.args.w.now c.args.frames c.args.frame.split.says.from o (2 * n + (length c.args.frames + 1)) c.in_ok-turn.turn c.go_on.new.steps.left) same c.in_ok-turn.ensures
