use Rattle.std.proofs.Common.{◌≡◌, Some, rules}
use Rattle.ap_poly.specs.Polynomials.{scale_parts}
use Rattle.ap_poly.proofs.Ordering.{scale_parts_ordered}
use Rattle.ap_poly.proofs.poly.scale.Goals as goal

pub made-requires : goal.made-requires
made-requires c =
    let e : scale_parts c.args.k c.a.inside.parts ≡ Some c.in-Some-2.parts = search rules in
    scale_parts_ordered c.args.k c.a.inside.parts c.in-Some-2.parts e c.a.invariant
