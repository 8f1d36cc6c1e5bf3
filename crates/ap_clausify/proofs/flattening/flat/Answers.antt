use Rattle.std.proofs.Common.{◌≡◌, rules}
use Rattle.ap_world.specs.Clauses.{flat}
use Rattle.ap_clausify.proofs.Implied.{clausifies}
use Rattle.ap_clausify.proofs.flattening.flat.Goals as goal

pub returns-clause-stands : goal.returns-clause-stands
returns-clause-stands c =
    let e : c.push_flat.new.out ≡ flat c.args.t.now = search rules in
    clausifies c.args.t.now (record { 0 = c.push_flat.new.out }) e
