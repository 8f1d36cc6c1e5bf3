use Rattle.std.proofs.Common.{◌≡◌, ◌+◌, drop, map}
use Rattle.ap_list.specs.Lists.{sum_of}
use Rattle.ap_term.specs.Order.{variables_in, functions_in, constants_in}
use Rattle.ap_term.specs.Terms.{term_size}
use Rattle.ap_term.proofs.counts.+counting.Given as goal

-- what is counted and what is left make the whole
abbrev pub invariant-counts_of-loop-x : goal.invariant-counts_of-loop-x
invariant-counts_of-loop-x l = record {
  variables : l.variables + sum_of (map variables_in (drop l.x-index l.xs)) ≡ sum_of (map variables_in l.xs);
  functions : l.functions + sum_of (map functions_in (drop l.x-index l.xs)) ≡ sum_of (map functions_in l.xs);
  constants : l.constants + sum_of (map constants_in (drop l.x-index l.xs)) ≡ sum_of (map constants_in l.xs);
  nodes : l.variables + l.functions + l.constants + sum_of (map term_size (drop l.x-index l.xs)) ≡ sum_of (map term_size l.xs);
}
