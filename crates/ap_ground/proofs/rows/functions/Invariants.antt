use Rattle.std.proofs.Common.{◌≡◌, take, map}
use Rattle.ap_ground.specs.Tabled.{function_made}
use Rattle.ap_ground.proofs.rows.functions.Given as goal

-- the functions so far
abbrev pub invariant-loop-row : goal.invariant-loop-row
invariant-loop-row l = l.out ≡ map function_made (take l.row-index l.rows)
