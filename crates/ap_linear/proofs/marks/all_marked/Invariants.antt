use Rattle.std.proofs.Common.{◌≡◌, ◌++◌, map, drop}
use Rattle.ap_linear.specs.Marks.{marked, bit_number}
use Rattle.ap_linear.proofs.marks.all_marked.Given as goal

-- the marks so far, and those of what is left
abbrev pub invariant-loop-p : goal.invariant-loop-p
invariant-loop-p l = l.out ++ map (marked (bit_number l.atoms)) (drop l.p-index l.polys) ≡ map (marked (bit_number l.atoms)) l.polys
