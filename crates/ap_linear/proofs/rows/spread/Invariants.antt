use Rattle.std.proofs.Common.{◌≡◌, ◌++◌, drop}
use Rattle.ap_linear.specs.Ranked.{spread}
use Rattle.ap_linear.proofs.rows.spread.Given as goal

-- the coefficients so far, and those of what is left
abbrev pub invariant-loop-u : goal.invariant-loop-u
invariant-loop-u l = l.out ++ spread (drop l.u-index l.atoms) l.left ≡ spread l.atoms l.parts
