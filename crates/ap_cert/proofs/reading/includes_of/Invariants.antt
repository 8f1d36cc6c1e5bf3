use Rattle.std.proofs.Common.{◌≡◌, ◌++◌, map, length}
use Rattle.ap_list.specs.Lists.{Each}
use Rattle.ap_cert.specs.Cert.{ended, include_line, IsIncluded}
use Rattle.ap_cert.proofs.reading.includes_of.Given as goal

abbrev pub invariant-loop-found : goal.invariant-loop-found
invariant-loop-found l = Each IsIncluded l.includes × (l.fn.text ≡ ended (map include_line l.includes) ++ l.rest)

abbrev pub decreases-loop-found : goal.decreases-loop-found
decreases-loop-found l = length l.rest
