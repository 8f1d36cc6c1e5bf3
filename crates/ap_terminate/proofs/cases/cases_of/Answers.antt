use Rattle.std.proofs.Common.{◌≡◌, [], map, ◌∙◌, rules}
use Rattle.ap_world.specs.Recursion.{cases_of}
use Rattle.ap_terminate.specs.Distinct.{under_tests}
use Rattle.ap_terminate.proofs.Casing.{under_none}
use Rattle.ap_terminate.proofs.cases.cases_of.Goals as goal

pub returns : goal.returns
returns c =
    let e : c.push_cases.new.out ≡ map (under_tests []) (cases_of c.args.name.now c.args.body.now) = search rules in
    e ∙ under_none (cases_of c.args.name.now c.args.body.now)
