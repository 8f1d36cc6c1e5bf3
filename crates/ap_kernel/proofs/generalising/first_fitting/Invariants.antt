use Rattle.std.proofs.Common.{◌≡◌, map, drop}
use Rattle.ap_value.specs.Values.{acl2}
use Rattle.ap_kernel.specs.Generalising.{first_fitting}
use Rattle.ap_kernel.proofs.generalising.first_fitting.Given as goal

-- what is left of the table has the answer
abbrev pub invariant-loop-name : goal.invariant-loop-name
invariant-loop-name l =
    first_fitting l.mask (map (λ p. (acl2 p.0.now, p.1)) (drop l.name-index l.table))
    ≡ first_fitting l.mask (map (λ p. (acl2 p.0.now, p.1)) l.table)
