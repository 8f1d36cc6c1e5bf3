use Rattle.std.proofs.Common.{◌≡◌, map, reverse, slice_get, ap, ◌∙◌, rules}
use Rattle.ap_rules.specs.Linear.{may_match}
use Rattle.ap_rules.specs.Placed.{places_from}
use Rattle.ap_rules.proofs.Merging.{found_turned}
use Rattle.ap_rules.proofs.finding.linear_for.Goals as goal

pub returns : goal.returns
returns c =
    let gs = c.args.index.now.linear in
    let is : c.from_vec.result ≡ reverse (places_from (may_match c.args.atoms.now) 0 gs) = search rules in
    ap (map (slice_get gs)) is ∙ found_turned (may_match c.args.atoms.now) gs
