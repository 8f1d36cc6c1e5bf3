use Rattle.std.proofs.Common.{◌≡◌, drop}
use Rattle.ap_linear.specs.Ranked.{first_negative}
use Rattle.ap_linear.proofs.rows.first_negative.Given as goal

-- what is left has the answer
abbrev pub invariant-loop-row : goal.invariant-loop-row
invariant-loop-row l = first_negative l.atoms (drop l.row-index l.rows) ≡ first_negative l.atoms l.rows
