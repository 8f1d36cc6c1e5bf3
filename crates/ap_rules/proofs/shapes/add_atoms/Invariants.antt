use Rattle.std.proofs.Common.{◌≡◌, drop}
use Rattle.ap_poly.specs.Bounds.{seen_in}
use Rattle.ap_rules.proofs.shapes.add_atoms.Given as goal

-- those of the parts that are left behind those so far
abbrev pub invariant-loop-t : goal.invariant-loop-t
invariant-loop-t l = seen_in (drop l.t-index l.parts) l.atoms ≡ seen_in l.parts l.fn.atoms
