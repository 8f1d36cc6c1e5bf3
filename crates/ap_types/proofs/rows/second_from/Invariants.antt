use Rattle.std.proofs.Common.{◌≡◌, drop}
use Rattle.ap_world.specs.Kinds.{union_from}
use Rattle.ap_world.specs.Rows.{row_two}
use Rattle.ap_types.proofs.rows.second_from.Given as goal

-- what is left of the types adds what is missing
abbrev pub invariant-loop-kind : goal.invariant-loop-kind
invariant-loop-kind l = union_from (row_two l.p l.first) (drop l.kind-index l.kinds) l.mask l.out ≡ union_from (row_two l.p l.first) l.kinds l.mask 0
