use Rattle.std.proofs.Common.{◌≡◌, ◌++◌, drop, map}
use Rattle.ap_term.specs.Terms.{subst_of}
use Rattle.ap_term.proofs.instance.+replacing.Given as goal

-- what is made, and what will be of the rest
abbrev pub invariant-subst_all-loop-t : goal.invariant-subst_all-loop-t
invariant-subst_all-loop-t l = l.out ++ map (subst_of l.s.0) (drop l.t-index l.ts) ≡ map (subst_of l.s.0) l.ts
