use Rattle.std.proofs.Common.{◌≡◌, ◌+◌, ◌*◌, drop}
use Rattle.ap_events.specs.Held.{with_all, with_form}
use Rattle.ap_events.proofs.held.+held.Given as goal

abbrev pub decreases-add_form : goal.decreases-add_form
decreases-add_form l = 2 * l.depth

abbrev pub decreases-add_all : goal.decreases-add_all
decreases-add_all l = 2 * l.depth + 1

-- what is left, added to what is held, is what all of them give
abbrev pub invariant-add_all-loop-form : goal.invariant-add_all-loop-form
invariant-add_all-loop-form l = with_all (with_form l.depth) (drop l.form-index l.forms) l.held ≡ with_all (with_form l.depth) l.forms l.initial.held
