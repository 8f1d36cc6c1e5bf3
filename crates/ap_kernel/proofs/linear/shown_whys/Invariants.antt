use Rattle.std.proofs.Common.{◌≡◌, ◌++◌, map, drop}
use Rattle.ap_list.specs.Lists.{joined}
use Rattle.ap_kernel.specs.Certificates.{shown_of}
use Rattle.ap_kernel.specs.Deriving.{why_of}
use Rattle.ap_kernel.proofs.linear.shown_whys.Given as goal

-- what is made, and what will be of the rest
abbrev pub invariant-loop-why : goal.invariant-loop-why
invariant-loop-why l = l.out ++ map why_of (joined (map shown_of (drop l.why-index l.whys))) ≡ map why_of (joined (map shown_of l.whys))
