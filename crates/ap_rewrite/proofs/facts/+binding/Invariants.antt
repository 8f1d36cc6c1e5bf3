use Rattle.std.proofs.Common.{◌≡◌, drop, map}
use Rattle.ap_list.specs.Lists.{all_true}
use Rattle.ap_term.specs.Matching.{is_bound}
use Rattle.ap_rewrite.proofs.facts.+binding.Given as goal

-- those that are left decide
abbrev pub invariant-are_bound-loop-t : goal.invariant-are_bound-loop-t
invariant-are_bound-loop-t l = all_true (map (is_bound l.pairs) (drop l.t-index l.ts)) ≡ all_true (map (is_bound l.pairs) l.ts)
