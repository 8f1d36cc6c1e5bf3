use Rattle.std.proofs.Common.{◌≡◌}
use Rattle.ap_kernel.specs.Reductions.{Reduces, to_one}
use Rattle.ap_tests_kernel.proofs.deep.nested.Given as goal

-- from the clause to itself so far
abbrev pub invariant-loop : goal.invariant-loop
invariant-loop l = record {
  stands : Reduces l.w l.r;
  says : l.r.says ≡ to_one l.c l.c.0;
}
