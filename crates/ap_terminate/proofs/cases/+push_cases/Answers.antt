use Rattle.std.proofs.Common.{◌≡◌, None, [], ◌∷◌, ◌++◌, map, sym, rules}
use Rattle.ap_world.specs.Clauses.{not_of}
use Rattle.ap_world.specs.Recursion.{cases_of}
use Rattle.ap_world.specs.Shapes.{shape_of}
use Rattle.ap_terminate.specs.Distinct.{under_tests}
use Rattle.ap_terminate.specs.Branches.{branches}
use Rattle.ap_terminate.proofs.Casing.{cases_whole, split_steps}
use Rattle.ap_terminate.proofs.cases.+push_cases.Goals as goal

pub returns-in_default : goal.returns-in_default
returns-in_default t c =
    let h : branches c.args.name.now (shape_of c.args.t.now) ≡ None = search rules in
    rw (cases_whole c.args.name.now c.args.t.now h) c.push_case.ensures

pub returns : goal.returns
returns t c =
    let held : c.in_ok-holds.holds ≡ c.args.tests ++ c.in-Some.test.now ∷ [] = search rules in
    let failed : c.in_ok-fails.fails ≡ c.args.tests ++ not_of c.in-Some.test.now ∷ [] = search rules in
    let made : c.push_cases.new.out ≡ c.args.out.now ++ map (under_tests c.in_ok-holds.holds) (cases_of c.args.name.now c.in-Some.yes.now) = search rules in
    let e = split_steps c.args.name.now c.args.t.now c.in-Some.test.now c.in-Some.yes.now c.in-Some.no.now c.args.tests c.in_ok-holds.holds c.in_ok-fails.fails c.args.out.now c.push_cases.new.out
    (sym c.in-Some.ensures.is) held failed made in
    rw e c.push_cases-2.ensures
