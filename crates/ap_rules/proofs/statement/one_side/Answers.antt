use Rattle.std.proofs.Common.{◌≡◌, true, rules}
use Rattle.ap_value.specs.Values.{symbol_eq}
use Rattle.ap_world.specs.Names.{not_name}
use Rattle.ap_rules.proofs.Stated.{negated_sides}
use Rattle.ap_rules.proofs.statement.one_side.Goals as goal

pub returns-then-is_not : goal.returns-then-is_not
returns-then-is_not c =
    let h : symbol_eq c.args.f.now not_name ≡ true = search rules in
    rw (negated_sides c.args.f.now c.args.a.now _ h) c.never.ensures
