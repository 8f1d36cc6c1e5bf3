use Rattle.std.proofs.Common.{◌≡◌, Some, rules}
use Rattle.ap_poly.specs.Polynomials.{put}
use Rattle.ap_poly.proofs.Ordering.{put_ordered}
use Rattle.ap_poly.proofs.literal.add_atom.Goals as goal

pub made-requires : goal.made-requires
made-requires c =
    let e : put c.args.t.now c.args.k c.into_fields-constant.result.1 ≡ Some c.in-Some.parts = search rules in
    put_ordered c.args.t.now c.args.k c.into_fields-constant.result.1 c.in-Some.parts e c.into_fields-constant.ensures.ordered
