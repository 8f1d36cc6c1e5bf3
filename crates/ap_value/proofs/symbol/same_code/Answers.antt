use Rattle.std.proofs.Common.{◌≡◌, ◌↔◌, IsTrue, nat_eq, rules, ◌<◌}
use Rattle.ap_value.proofs.Bytes.{codes_meant}
use Rattle.ap_value.proofs.symbol.same_code.Goals as goal

pub returns-clause-meant : goal.returns-clause-meant
returns-clause-meant c =
    let equal : IsTrue (nat_eq c.args.a c.args.b) ↔ (c.args.a ≡ c.args.b) = search rules in
    let small_a : c.args.a < 256 = search rules in
    let small_b : c.args.b < 256 = search rules in
    codes_meant c.args.a c.args.b (nat_eq c.args.a c.args.b) small_a small_b equal
