use Rattle.std.proofs.Common.{◌*ℤ◌, rules}
use Rattle.std.specs.Option.{SomeIff}
use mir.Val.{SFits}
use mir.Syntax.{w128}
use Rattle.ap_poly.proofs.Narrow.{narrow_of}
use Rattle.ap_linear.proofs.mixing.narrow_product.Goals as goal

pub returns : goal.returns
returns c =
    let checked : SomeIff c.checked_mul.result (SFits w128 (c.args.m *ℤ c.args.n)) (c.args.m *ℤ c.args.n) = search rules in
    narrow_of (c.args.m *ℤ c.args.n) c.checked_mul.result checked
