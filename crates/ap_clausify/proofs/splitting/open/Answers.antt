use Rattle.std.proofs.Common.{◌≡◌, ◌+◌, ◌*◌, Some, length, sym, subst, IfOk}
use Rattle.ap_clausify.specs.Places.{first_choice}
use Rattle.ap_clausify.specs.Scanning.{Ready, Finds}
use Rattle.ap_clausify.specs.Frames.{Linked, due, Goes}
use Rattle.ap_clausify.proofs.splitting.open.Goals as goal

pub framed-requires-clause-choice : goal.framed-requires-clause-choice
framed-requires-clause-choice c =
    let p : (first_choice c.args.case.clause ≡ Some (c.in-Choice.place.literal, c.in-Choice.place.at)) × Ready c.args.case.clause c.in-Choice.place.literal c.in-Choice.is_tidy =
    subst (Finds c.args.case.clause) c.in-Choice.is c.in_ok-is_tidy.ensures in
    p.0

pub framed-requires-clause-ready : goal.framed-requires-clause-ready
framed-requires-clause-ready c =
    let p : (first_choice c.args.case.clause ≡ Some (c.in-Choice.place.literal, c.in-Choice.place.at)) × Ready c.args.case.clause c.in-Choice.place.literal c.in-Choice.is_tidy =
    subst (Finds c.args.case.clause) c.in-Choice.is c.in_ok-is_tidy.ensures in
    p.1

pub go_on-requires-clause-linked : goal.go_on-requires-clause-linked
go_on-requires-clause-linked c = subst (Linked c.args.w.now c.args.frames) (sym c.in_ok-frame-in-Choice.ensures.from) c.requires.linked

pub returns-in_ok-frame-in-Choice : goal.returns-in_ok-frame-in-Choice
returns-in_ok-frame-in-Choice c =
    let n = c.args.steps.now.left in
    let b = 2 * n + (length c.args.frames + 1) in
    let f = c.in_ok-frame-in-Choice.frame in
    let made = c.in_ok-frame-in-Choice.ensures in
    subst (λ o. IfOk c.go_on.result (λ t. Goes c.args.w.now c.args.frames c.args.case.clause o b t c.go_on.new.steps.left)) (sym (made.due n))
    (subst (λ d. IfOk c.go_on.result (λ t. Goes c.args.w.now c.args.frames d (due f n) b t c.go_on.new.steps.left)) made.from c.go_on.ensures)
