use Rattle.std.proofs.Common.{◌≡◌, ◌<◌, ◌-◌, suc, length, take, ap, rules, arith, ◌∙◌}
use Rattle.std.proofs.Math.Seq.{take-length}
use Rattle.ap_poly.specs.Elimination.{with_atoms, atoms_of}
use Rattle.ap_linear.proofs.Walks.{atoms_onto, onto-turn, atoms-all}
use Rattle.ap_linear.proofs.atoms.atoms_of.Goals as goal

pub loop-left-init : goal.loop-left-init
loop-left-init c =
    let ps = c.args.polys.now in
    record {
      within = omega arith;
      atoms = ap (λ qs. atoms_onto qs c.new-out.result) (take-length ps) ∙ ap (atoms_onto ps) c.new-out.ensures ∙ atoms-all ps;
    }

pub loop-left-preserved : goal.loop-left-preserved
loop-left-preserved c =
    let i = c.loop-left.left in
    let some = c.loop-left-test.true in
    let within = c.loop-left.invariant.within in
    let next : i ≡ suc (i - 1) = omega arith in
    let inside : i - 1 < length c.args.polys.now = omega arith in
    let made : c.in_ok-out.out ≡ with_atoms c.index-polys-left.result.parts c.loop-left.out = search rules in
    record {
      within = omega arith;
      atoms = ap (atoms_onto (take (i - 1) c.args.polys.now)) made
          ∙ onto-turn c.args.polys.now c.loop-left.out i (i - 1) c.index-polys-left.result (atoms_of c.args.polys.now) next inside c.index-polys-left.is c.loop-left.invariant.atoms;
    }
