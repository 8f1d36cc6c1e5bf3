use Rattle.std.proofs.Common.{◌≡◌, drop}
use Rattle.ap_elim.specs.Eliminating.{destructed, first_destructed}
use Rattle.ap_elim.proofs.eliminating.destructed.Given as goal

-- the variables that are left have the answer
abbrev pub invariant-loop-v : goal.invariant-loop-v
invariant-loop-v l = first_destructed l.literals (drop l.v-index l.v-items) ≡ destructed l.literals
