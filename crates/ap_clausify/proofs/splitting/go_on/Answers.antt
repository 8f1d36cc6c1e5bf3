use Rattle.std.proofs.Common.{◌≡◌, ◌+◌, Some, None, length, slice_get, rules}
use Rattle.ap_clausify.proofs.Framed.{goes_case, goes_done, goes_out}
use Rattle.ap_clausify.proofs.splitting.go_on.Goals as goal

pub returns-in_default : goal.returns-in_default
returns-in_default c =
    let h : slice_get c.args.frame.split.says.to (length c.args.frame.done) ≡ None = search rules in
    goes_done c.args.w.now c.args.frames c.args.frame c.in_ok-reduction.reduction c.args.steps.now.left c.requires.linked h c.in_ok-reduction.ensures.stands c.in_ok-reduction.ensures.made

pub returns-then-is_err : goal.returns-then-is_err
returns-then-is_err c =
    let h : slice_get c.args.frame.split.says.to (length c.args.frame.done) ≡ Some c.in-Some.case.now = search rules in
    let z : c.args.steps.now.left ≡ 0 = search rules in
    let same : c.tick.new.self ≡ c.args.steps.now = search rules in
    (goes_out c.args.frames c.args.frame c.in-Some.case.now c.args.steps.now.left h z, cc)

pub returns : goal.returns
returns c =
    let h : slice_get c.args.frame.split.says.to (length c.args.frame.done) ≡ Some c.in-Some.case.now = search rules in
    let e : c.args.steps.now.left ≡ c.tick.new.self.left + 1 = search rules in
    goes_case c.args.w.now c.args.frames c.push.new.self c.args.frame c.in-Some.case.now c.in_ok-next.next c.args.steps.now.left c.tick.new.self.left
    c.requires.linked c.requires.waits h c.in_ok-push.ensures.ok c.in_ok-next.ensures e
