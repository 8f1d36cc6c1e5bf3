use Rattle.std.proofs.Common.{◌≡◌, ap, sym, ◌∙◌, subst}
use Rattle.ap_events.specs.Books.{again_event}
use Rattle.ap_events.specs.Joining.{back_in}
use Rattle.ap_events.specs.Nested.{agains, all}
use Rattle.ap_events.proofs.Joined.{refused_did, made_end, made_drops, made_error, turned_true, turned_false}
use Rattle.ap_events.proofs.first.close.Goals as goal

pub returns-then-not-first-clause-done : goal.returns-then-not-first-clause-done
returns-then-not-first-clause-done c = λ d did.
    refused_did d (all (agains (again_event c.args.earlier.now) c.args.depth) c.args.forms.now (back_in c.args.before c.args.w.now)) (back_in c.args.before c.args.w.now) c.args.w.now c.args.first (turned_true c.args.first.admitted c.if-not-first.true) did

pub second_pass-requires-clause-backed : goal.second_pass-requires-clause-backed
second_pass-requires-clause-backed c = c.requires.backed (turned_false c.args.first.admitted c.if-not-first.false)

pub returns-clause-done : goal.returns-clause-done
returns-clause-done c =
    made_end c.ended_by.result (all (agains (again_event c.args.earlier.now) c.args.depth) c.args.forms.now (back_in c.args.before c.args.w.now)) (back_in c.args.before c.args.w.now) c.args.w.now c.second_pass.new.w c.args.first c.in_ok-second.second
    (turned_false c.args.first.admitted c.if-not-first.false) c.in_ok-second.ensures.done c.ended_by.ensures.made

pub returns-clause-alone : goal.returns-clause-alone
returns-clause-alone c = made_drops c.ended_by.result c.args.first c.in_ok-second.second c.ended_by.ensures.made

pub returns-clause-error : goal.returns-clause-error
returns-clause-error c =
    made_error c.ended_by.result (all (agains (again_event c.args.earlier.now) c.args.depth) c.args.forms.now (back_in c.args.before c.args.w.now)) (back_in c.args.before c.args.w.now) c.second_pass.new.w c.in_ok-second.second
    c.in_ok-second.ensures.done c.ended_by.ensures.error
