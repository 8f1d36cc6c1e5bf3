use Rattle.std.proofs.Common.{◌≡◌, ◌≤◌, length, Some, None, slice_get, rules}
use Rattle.ap_world.specs.Prescribing.{theorems_about}
use Rattle.ap_types.proofs.Listing.{all_cut, none_left, one_cut}
use Rattle.ap_types.proofs.rules.narrowed.Goals as goal

pub returns : goal.returns
returns c =
    let far : length c.args.w.now.entries ≤ c.loop-number.number = rw (← c.count-number-end.ensures) c.loop-number-test.false in
    all_cut c.args.w.now.theory c.args.f.now c.args.w.now.entries c.loop-number.number c.args.mask c.loop-number.out far c.loop-number.invariant

pub returns-in-None : goal.returns-in-None
returns-in-None c =
    let none : slice_get (theorems_about c.args.f.now c.args.w.now.entries) c.loop-number.number ≡ None = search rules in
    none_left c.args.w.now.theory (theorems_about c.args.f.now c.args.w.now.entries) c.loop-number.number c.args.mask c.loop-number.out none c.loop-number.invariant

pub loop-number-preserved : goal.loop-number-preserved
loop-number-preserved c =
    let some : slice_get (theorems_about c.args.f.now c.args.w.now.entries) c.loop-number.number ≡ Some c.in-Some.theorem.now = search rules in
    let next = one_cut c.args.w.now.theory (theorems_about c.args.f.now c.args.w.now.entries) c.loop-number.number c.args.mask c.loop-number.out c.in-Some.theorem.now some c.loop-number.invariant in
    rw (c.left_by-out.ensures, c.theory.ensures) next
