use Rattle.std.proofs.Common.{arith, rules}
use Rattle.ap_events.specs.Nested.{plain, hidden, group, closed}
use Rattle.ap_events.proofs.Holding.{with_form_none, with_form_at, ok_by}
use Rattle.ap_events.proofs.held.+held.Goals as goal

pub add_form-returns-then-depth-eq0 : goal.add_form-returns-then-depth-eq0
add_form-returns-then-depth-eq0 t c =
    ok_by c.add_single.result c.add_single.new.held _ _ c.add_single.ensures (with_form_none c.args.depth c.args.form.now c.args.held.now (search rules))

pub add_form-returns-in-Plain : goal.add_form-returns-in-Plain
add_form-returns-in-Plain t c =
    ok_by c.add_single-in-Plain.result c.add_single-in-Plain.new.held _ _ c.add_single-in-Plain.ensures (with_form_at c.args.depth c.args.form.now c.args.held.now plain (omega arith) c.in-Plain.ensures)

pub add_form-returns-in-Hidden : goal.add_form-returns-in-Hidden
add_form-returns-in-Hidden t c =
    ok_by c.add_form.result c.add_form.new.held _ _ c.add_form.ensures (with_form_at c.args.depth c.args.form.now c.args.held.now (hidden c.in-Hidden.event.now) (omega arith) c.in-Hidden.ensures)

pub add_form-returns-in-Group : goal.add_form-returns-in-Group
add_form-returns-in-Group t c =
    ok_by c.add_all.result c.add_all.new.held _ _ c.add_all.ensures (with_form_at c.args.depth c.args.form.now c.args.held.now (group c.in-Group.forms.now) (omega arith) c.in-Group.ensures)

pub add_form-returns-in-Closed : goal.add_form-returns-in-Closed
add_form-returns-in-Closed t c =
    ok_by c.add_all-in-Closed.result c.add_all-in-Closed.new.held _ _ c.add_all-in-Closed.ensures (with_form_at c.args.depth c.args.form.now c.args.held.now (closed c.in-Closed.forms.now) (omega arith) c.in-Closed.ensures)
