use Rattle.std.proofs.Common.{◌≡◌, ◌<◌, ◌^◌, length, rules, arith}
use Rattle.ap_elim.proofs.Named.{never_none}
use Rattle.ap_elim.proofs.naming.new_name.Goals as goal

pub unreachable-requires : goal.unreachable-requires
unreachable-requires c =
    let count : c.len-count.result ≡ length c.in_ok-vars_of.field-0 = search rules in
    let small : c.len-count.result < 2 ^ 63 = omega arith in
    never_none c.args.stem.now c.args.literals.now c.len-count.result c.in_ok-vars_of.field-0 c.in_ok-name.field-0 c.in_ok-vars_of.ensures count small c.in_ok-name.ensures c.in-None.is
