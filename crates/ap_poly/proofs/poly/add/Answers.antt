use Rattle.std.proofs.Common.{◌≡◌, Some, rules}
use Rattle.ap_poly.specs.Polynomials.{add_parts}
use Rattle.ap_poly.proofs.Ordering.{add_parts_ordered}
use Rattle.ap_poly.proofs.poly.add.Goals as goal

pub made-requires : goal.made-requires
made-requires c =
    let e : add_parts c.a.inside.parts c.b.inside.parts ≡ Some c.in-Some-2.parts = search rules in
    add_parts_ordered c.a.inside.parts c.b.inside.parts c.in-Some-2.parts e c.b.invariant
