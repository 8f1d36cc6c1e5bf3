use Rattle.std.proofs.Common.{◌≡◌, ◌++◌, replicate}
use Rattle.ap_kernel.specs.declared.linear.Why.TheVariants as why
use Rattle.ap_rewrite.proofs.bounding.push_atom.Given as goal

-- so many so far
abbrev pub invariant-loop : goal.invariant-loop
invariant-loop l = l.whys ≡ l.initial.whys ++ replicate l.counter (why.Bound l.t)
