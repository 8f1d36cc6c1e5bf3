use Rattle.std.proofs.Common.{◌≡◌, ◌++◌, map, drop}
use Rattle.ap_kernel.specs.Certificates.{source_of}
use Rattle.ap_kernel.proofs.linear.sources_of.Given as goal

-- what is made, and what will be of the rest
abbrev pub invariant-loop-why : goal.invariant-loop-why
invariant-loop-why l = l.out ++ map source_of (drop l.why-index l.whys) ≡ map source_of l.whys
