use Rattle.std.proofs.Common.{◌≡◌, ◌++◌, List, ap, sym, ◌∙◌, subst}
use Rattle.std.specs.Prelude.{codes}
use Rattle.ap_world.specs.Sound.{HasFunctions}
use Rattle.ap_world.specs.World.{Shown, function_of}
use Rattle.ap_stated.specs.Texts.{line}
use Rattle.ap_events.specs.Books.{again_event}
use Rattle.ap_events.specs.Joining.{back_in}
use Rattle.ap_events.specs.Nested.{agains, all}
use Rattle.ap_events.proofs.Doing.{IsBacked}
use Rattle.ap_events.proofs.Joined.{passed_yes, passed_no, passed_kept, on_error}
use Rattle.ap_events.proofs.second.second_pass.Goals as goal

pub again_all-requires-clause-functions : goal.again_all-requires-clause-functions
again_all-requires-clause-functions c = subst (λ (x : Shown). HasFunctions (function_of x.entries)) (sym c.back_to.ensures) c.requires.functions

pub again_all-requires-clause-backed : goal.again_all-requires-clause-backed
again_all-requires-clause-backed c =
    subst (λ (x : Shown). IsBacked (all (agains (again_event c.args.earlier.now) c.args.depth) c.args.forms.now x) x) (sym c.back_to.ensures) c.requires.backed

pub returns-then-done-clause-done : goal.returns-then-done-clause-done
returns-then-done-clause-done c =
    passed_yes (all (agains (again_event c.args.earlier.now) c.args.depth) c.args.forms.now) (back_in c.args.before c.args.w.now) c.back_to.new.self c.again_all.new.w c.in_ok-done.done c.back_to.ensures c.in_ok-done.ensures.done
    c.if-done.true

pub returns-clause-done : goal.returns-clause-done
returns-clause-done c =
    passed_no (all (agains (again_event c.args.earlier.now) c.args.depth) c.args.forms.now) (back_in c.args.before c.args.w.now) c.back_to.new.self c.again_all.new.w c.in_ok-done.done c.back_to.ensures c.in_ok-done.ensures.done
    c.in_ok-text.text c.if-done.false (c.in_ok-text.ensures ∙ ap (λ t. line (codes "Second pass") ++ t) c.as_slice.ensures)

pub returns-in_err-text-clause-error : goal.returns-in_err-text-clause-error
returns-in_err-text-clause-error c =
    on_error c.from_residual-in_err-text.result
    (passed_kept (all (agains (again_event c.args.earlier.now) c.args.depth) c.args.forms.now) (back_in c.args.before c.args.w.now) c.back_to.new.self c.again_all.new.w c.in_ok-done.done c.back_to.ensures c.in_ok-done.ensures.done
    c.if-done.false)
