use Rattle.std.proofs.Common.{◌≡◌, ◌-◌, Some, is_some, length, take, refl, sym, ap}
use Rattle.ap_rules.specs.Placed.{places_at}
use Rattle.ap_rules.proofs.Updates.{Updated, changed_by, had_group}
use Rattle.ap_rules.proofs.Placing.{last_off}
use Rattle.ap_rules.proofs.linears.remove_place.Goals as goal

pub returns-in-Some : goal.returns-in-Some
returns-in-Some c =
    let old = c.args.places.now.entries in
    let new = (c.get_mut.follows.lender c.pop.new.self).entries in
    let had : places_at old c.args.head.now ≡ c.in-Some.group.now = had_group old old c.args.head.now (Some c.in-Some.group.now) refl c.in-Some.ensures.value in
    let changed : Updated old new c.args.head.now c.pop.new.self = ((c.get_mut.follows.holds c.pop.new.self).3 (ap is_some (sym c.in-Some.ensures.value))).0 in
    changed_by old new c.args.head.now c.pop.new.self c.in-Some.group.now changed had (λ is. take (length is - 1) is) (last_off c.in-Some.group.now c.pop.new.self c.pop.result c.pop.ensures)
