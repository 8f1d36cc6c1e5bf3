use Rattle.std.proofs.Common.{◌≡◌, ◌*◌, ◌≤◌, drop, map}
use Rattle.ap_clausify.specs.Leaves.{product, leaves, capped}
use Rattle.ap_clausify.proofs.leaves.leaves_of.Given as goal

-- the product and the leaves that are left make the whole
abbrev pub invariant-loop-t : goal.invariant-loop-t
invariant-loop-t l = record {
  some : 1 ≤ l.all;
  fits : l.all ≤ l.limit;
  rest : capped l.limit (l.all * product (map leaves (drop l.t-index l.ts))) ≡ capped l.limit (product (map leaves l.ts));
}
