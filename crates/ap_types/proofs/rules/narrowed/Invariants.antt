use Rattle.std.proofs.Common.{◌≡◌, drop}
use Rattle.ap_world.specs.Prescribing.{theorems_about}
use Rattle.ap_world.specs.Typing.{narrowed}
use Rattle.ap_types.proofs.rules.narrowed.Given as goal

-- what is left of the theorems cuts the rest
abbrev pub invariant-loop-number : goal.invariant-loop-number
invariant-loop-number l =
    narrowed l.w.theory (drop l.number (theorems_about l.f l.w.entries)) l.out
    ≡ narrowed l.w.theory (theorems_about l.f l.w.entries) l.mask
