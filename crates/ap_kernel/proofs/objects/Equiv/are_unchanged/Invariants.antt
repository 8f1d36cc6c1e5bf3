use Rattle.std.proofs.Common.{◌≡◌, drop}
use Rattle.ap_kernel.specs.Answers.{are_unchanged}
use Rattle.ap_kernel.proofs.objects.Equiv.are_unchanged.Given as goal

-- those that are left decide
abbrev pub invariant-loop-q : goal.invariant-loop-q
invariant-loop-q l = are_unchanged (drop l.q-index l.list) ≡ are_unchanged l.list
