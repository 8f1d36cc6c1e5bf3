use Rattle.std.proofs.Common.{◌≡◌, ◌<◌, ◌-◌, suc, length, Some, None, rules, arith}
use Rattle.ap_poly.specs.Polynomials.{put, add_parts}
use Rattle.ap_poly.proofs.Walks.{add-turn}
use Rattle.ap_poly.proofs.parts.add_parts.Goals as goal

pub loop-left-preserved : goal.loop-left-preserved
loop-left-preserved c =
    let i = c.loop-left.left in
    let some = c.loop-left-test.true in
    let within = c.loop-left.invariant.within in
    let next : i ≡ suc (i - 1) = omega arith in
    let inside : i - 1 < length c.args.a.now = omega arith in
    let put_is : put c.index-a-left.result.0 c.index-a-left.result.1 c.loop-left.sum ≡ Some c.in-Some.more = search rules in
    record {
      within = omega arith;
      added = add-turn c.args.a.now c.loop-left.sum i (i - 1) c.index-a-left.result (Some c.in-Some.more) (add_parts c.args.a.now c.args.b.now) next inside c.index-a-left.is put_is c.loop-left.invariant.added;
    }

pub returns-in-None : goal.returns-in-None
returns-in-None c =
    let i = c.loop-left.left in
    let some = c.loop-left-test.true in
    let within = c.loop-left.invariant.within in
    let next : i ≡ suc (i - 1) = omega arith in
    let inside : i - 1 < length c.args.a.now = omega arith in
    let put_is : put c.index-a-left.result.0 c.index-a-left.result.1 c.loop-left.sum ≡ None = search rules in
    add-turn c.args.a.now c.loop-left.sum i (i - 1) c.index-a-left.result None (add_parts c.args.a.now c.args.b.now) next inside c.index-a-left.is put_is c.loop-left.invariant.added
