use Rattle.std.proofs.Common.{◌≡◌, ◌≤◌, map, drop, zip}
use Rattle.ap_translate.specs.Instances.{sum_known, nodes_of, more_than}
use Rattle.ap_translate.proofs.instance.+counting.Given as goal

-- what is counted, before the parts that are left, is all
abbrev pub invariant-count_all-loop-part : goal.invariant-count_all-loop-part
invariant-count_all-loop-part l = record {
  told : more_than l.total (sum_known (map (nodes_of (zip l.names l.terms)) (drop l.part-index l.parts)))
      ≡ more_than l.before (sum_known (map (nodes_of (zip l.names l.terms)) l.parts));
  low : l.total ≤ 4096;
}
