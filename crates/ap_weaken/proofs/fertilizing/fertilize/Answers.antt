use Rattle.std.proofs.Common.{◌≡◌, Some, rules}
use Rattle.ap_weaken.specs.Fertilize.{use_of}
use Rattle.ap_weaken.proofs.Used.{use_applies}
use Rattle.ap_weaken.proofs.fertilizing.fertilize.Goals as goal

pub fertilise-requires-clause-applies : goal.fertilise-requires-clause-applies
fertilise-requires-clause-applies c =
    let is : use_of c.args.c.now ≡ Some (c.in-Some.i, c.in-Some.j) = search rules in
    let same : c.in_ok-copy_terms.field-0 ≡ c.args.c.now.0 = search rules in
    use_applies c.args.c.now c.in_ok-copy_terms.field-0 c.in-Some.i c.in-Some.j same is
