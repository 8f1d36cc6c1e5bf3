use Rattle.std.proofs.Common.{sym, subst}
use Rattle.ap_table.specs.Kept.{Kept}
use Rattle.ap_table.specs.Seated.{AreRows}
use Rattle.ap_table.proofs.seating.new_family.Goals as goal

pub returns-clause-rows : goal.returns-clause-rows
returns-clause-rows g c = subst (λ (v : Kept). AreRows c.args.seats.now.items c.args.path.now c.args.family v c.in_ok-rows.rows.items) (sym c.in_ok-rows.ensures.same.1) c.in_ok-rows.ensures.rows
