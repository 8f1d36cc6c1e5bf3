use Rattle.std.proofs.Common.{◌≡◌, ◌+◌, ◌≤◌, drop}
use Rattle.ap_induct.specs.Choosing.{score}
use Rattle.ap_induct.proofs.choosing.score.Given as goal

-- those that were counted, and those that are left
abbrev pub invariant-loop-other : goal.invariant-loop-other
invariant-loop-other l = (l.count + score (drop l.other-index l.all) l.names ≡ score l.all l.names) × (l.count ≤ l.other-index)
