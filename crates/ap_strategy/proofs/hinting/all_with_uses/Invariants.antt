use Rattle.std.proofs.Common.{◌≡◌, map, take}
use Rattle.ap_list.specs.Lists.{Each}
use Rattle.ap_kernel.specs.Reductions.{Reduces, claims}
use Rattle.ap_strategy.specs.Leads.{used_from}
use Rattle.ap_strategy.proofs.hinting.all_with_uses.Given as goal

-- those of the clauses so far
abbrev pub invariant-loop-clause : goal.invariant-loop-clause
invariant-loop-clause l = record {
  stand : Each (Reduces l.w) l.out;
  made : claims l.out ≡ map (used_from l.w.entries l.uses) (take l.clause-index l.clauses);
}
