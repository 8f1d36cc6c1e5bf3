use Rattle.std.proofs.Common.{◌≡◌, take, map}
use Rattle.ap_ground.specs.Tabled.{rule_made}
use Rattle.ap_ground.proofs.rows.rules.Given as goal

-- the rules so far
abbrev pub invariant-loop-row : goal.invariant-loop-row
invariant-loop-row l = l.out ≡ map rule_made (take l.row-index l.rows)
