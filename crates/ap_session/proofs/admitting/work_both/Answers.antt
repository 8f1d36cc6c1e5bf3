use Rattle.ap_session.specs.Working.{Working, working_in}
use Rattle.ap_session.proofs.Passing.{passes_back, cut_stands, both_stand, both_left}
use Rattle.ap_session.proofs.admitting.work_both.Goals as goal

pub pass_on-requires-clause-backed : goal.pass_on-requires-clause-backed
pass_on-requires-clause-backed g c =
    let s : Working = working_in c.args.limits.now c.args.earlier.now c.args.world.now c.args.second.now in
    passes_back c.worlds_grow.ensures.grows c.again_is_covered.ensures s c.args.form.now c.in_ok-done.done.admitted c.work.new.w c.requires.stands c.in_ok-done.ensures.next c.recall_sound.ensures

pub returns-in_err-pass_on-clause-left : goal.returns-in_err-pass_on-clause-left
returns-in_err-pass_on-clause-left g c =
    let s : Working = working_in c.args.limits.now c.args.earlier.now c.args.world.now c.args.second.now in
    both_left c.worlds_grow.ensures.tells s c.args.form.now c.in_ok-done.done.admitted c.work.new.w (c.in_ok-done.ensures.next, c.in_ok-done.ensures.refused)

pub returns-in_err-pass_on-clause-stands : goal.returns-in_err-pass_on-clause-stands
returns-in_err-pass_on-clause-stands g c =
    let s : Working = working_in c.args.limits.now c.args.earlier.now c.args.world.now c.args.second.now in
    cut_stands c.worlds_grow.ensures.grows c.again_is_covered.ensures s c.args.form.now c.in_ok-done.done.admitted c.work.new.w c.pass_on.new.second c.requires.stands
    (c.in_ok-done.ensures.next, c.in_ok-done.ensures.refused) c.in_ok-done.ensures.ground c.in_err-pass_on.ensures.err

pub returns-clause-left : goal.returns-clause-left
returns-clause-left g c =
    let s : Working = working_in c.args.limits.now c.args.earlier.now c.args.world.now c.args.second.now in
    both_left c.worlds_grow.ensures.tells s c.args.form.now c.in_ok-done.done.admitted c.work.new.w (c.in_ok-done.ensures.next, c.in_ok-done.ensures.refused)

pub returns-clause-stands : goal.returns-clause-stands
returns-clause-stands g c =
    let s : Working = working_in c.args.limits.now c.args.earlier.now c.args.world.now c.args.second.now in
    both_stand c.worlds_grow.ensures.grows c.again_is_covered.ensures s c.args.form.now c.in_ok-done.done.admitted c.work.new.w c.pass_on.new.second c.requires.stands
    (c.in_ok-done.ensures.next, c.in_ok-done.ensures.refused) c.in_ok-done.ensures.ground c.in_ok-pass_on.ensures.ok c.in_ok-pass_on.ensures.functions
