use Rattle.std.proofs.Common.{neg_ℤ, rules}
use Rattle.std.specs.Option.{SomeIff}
use mir.Val.{SFits}
use mir.Syntax.{w128}
use Rattle.ap_poly.proofs.Narrow.{narrow_of}
use Rattle.ap_poly.proofs.numbers.narrow_negation.Goals as goal

pub returns : goal.returns
returns c =
    let checked : SomeIff c.checked_neg.result (SFits w128 (neg_ℤ c.args.n)) (neg_ℤ c.args.n) = search rules in
    narrow_of (neg_ℤ c.args.n) c.checked_neg.result checked
