use Rattle.std.proofs.Common.{◌≡◌, take, map}
use Rattle.ap_ground.specs.Tabled.{case_made}
use Rattle.ap_ground.proofs.rows.cases.Given as goal

-- the cases so far
abbrev pub invariant-loop-row : goal.invariant-loop-row
invariant-loop-row l = l.out ≡ map case_made (take l.row-index l.rows)
