use Rattle.std.proofs.Common.{◌≡◌, ◌++◌, drop}
use Rattle.ap_linear.specs.Ranked.{without}
use Rattle.ap_linear.proofs.eliminating.without.Given as goal

-- the rows so far, and those of what is left
abbrev pub invariant-loop-row : goal.invariant-loop-row
invariant-loop-row l = l.out ++ without l.rank (drop l.row-index l.rows) ≡ without l.rank l.rows
