use Rattle.std.proofs.Common.{◌≡◌, ◌+◌, ◌++◌, map, length}
use Rattle.ap_poly.specs.Elimination.{rows_of}
use Rattle.ap_linear.specs.Ranked.{AllListed, row_in}
use Rattle.ap_linear.proofs.Walks.{shifted}
use Rattle.ap_linear.proofs.rows.rows_of.Given as goal

-- the rows so far, and those of what is left, behind as many places
abbrev pub invariant-loop-left : goal.invariant-loop-left
invariant-loop-left l = record {
  count : l.before + length l.left ≡ length l.polys;
  listed : AllListed l.atoms l.left;
  rows : map (row_in l.atoms) l.rows ++ shifted l.before (rows_of l.left) ≡ rows_of l.polys;
}

abbrev pub decreases-loop-left : goal.decreases-loop-left
decreases-loop-left l = length l.left
