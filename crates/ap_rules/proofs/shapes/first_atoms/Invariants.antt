use Rattle.std.proofs.Common.{◌≡◌, drop}
use Rattle.ap_poly.specs.Bounds.{seen_after, first_atoms}
use Rattle.ap_rules.proofs.shapes.first_atoms.Given as goal

-- those of the polynomials that are left behind those so far
abbrev pub invariant-loop-p : goal.invariant-loop-p
invariant-loop-p l = seen_after (drop l.p-index l.polys) l.atoms ≡ first_atoms l.polys
