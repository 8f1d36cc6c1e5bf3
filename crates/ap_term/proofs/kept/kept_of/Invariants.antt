use Rattle.std.proofs.Common.{◌≡◌, ◌+◌, ◌*◌, ◌≤◌, ◌||◌, drop, map}
use Rattle.ap_list.specs.Lists.{sum_of}
use Rattle.ap_term.specs.Capped.{capped}
use Rattle.ap_term.specs.Hashes.{term_hash, mixed_all}
use Rattle.ap_term.specs.Leaves.{product, leaves as leaves_in, has_if as has_if_in, any_true}
use Rattle.ap_term.specs.Order.{variables_in, functions_in, constants_in}
use Rattle.ap_term.proofs.kept.kept_of.Given as goal

-- what is counted so far and that of the rest make the whole
abbrev pub invariant-loop-t : goal.invariant-loop-t
invariant-loop-t l = record {
  variables : capped (l.variables + sum_of (map variables_in (drop l.t-index l.ts))) ≡ capped (sum_of (map variables_in l.ts));
  functions : capped (l.functions + sum_of (map functions_in (drop l.t-index l.ts))) ≡ capped (sum_of (map functions_in l.ts));
  constants : capped (l.constants + sum_of (map constants_in (drop l.t-index l.ts))) ≡ capped (sum_of (map constants_in l.ts));
  variables_fit : l.variables ≤ 4294967295;
  functions_fit : l.functions ≤ 4294967295;
  constants_fit : l.constants ≤ 4294967295;
  leaves_fit : l.leaves ≤ 4294967295;
  some : 1 ≤ l.leaves;
  leaves : capped (l.leaves * product (map leaves_in (drop l.t-index l.ts))) ≡ capped (product (map leaves_in l.ts));
  hash : mixed_all l.hash (map term_hash (drop l.t-index l.ts)) ≡ mixed_all 8 (map term_hash l.ts);
  has_if : (l.has_if || any_true (map has_if_in (drop l.t-index l.ts))) ≡ any_true (map has_if_in l.ts);
}
