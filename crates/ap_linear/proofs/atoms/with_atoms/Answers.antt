use Rattle.std.proofs.Common.{◌≡◌, ◌<◌, ◌-◌, suc, length, take, ap, rules, arith, ◌∙◌}
use Rattle.ap_poly.specs.Elimination.{with_atom, with_atoms}
use Rattle.ap_linear.proofs.Walks.{atoms-turn}
use Rattle.ap_linear.proofs.atoms.with_atoms.Goals as goal

pub loop-left-preserved : goal.loop-left-preserved
loop-left-preserved c =
    let i = c.loop-left.left in
    let some = c.loop-left-test.true in
    let within = c.loop-left.invariant.within in
    let next : i ≡ suc (i - 1) = omega arith in
    let inside : i - 1 < length c.args.parts.now = omega arith in
    let put_is : c.in_ok-out.out ≡ with_atom c.index-parts-left.result.0 c.loop-left.out = search rules in
    record {
      within = omega arith;
      atoms = ap (with_atoms (take (i - 1) c.args.parts.now)) put_is
          ∙ atoms-turn c.args.parts.now c.loop-left.out i (i - 1) c.index-parts-left.result (with_atoms c.args.parts.now c.args.atoms) next inside c.index-parts-left.is c.loop-left.invariant.atoms;
    }
