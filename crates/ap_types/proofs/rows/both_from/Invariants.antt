use Rattle.std.proofs.Common.{◌≡◌, drop}
use Rattle.ap_world.specs.Kinds.{union_from, union}
use Rattle.ap_world.specs.Rows.{row_two}
use Rattle.ap_types.proofs.rows.both_from.Given as goal

-- what is left of the types adds what is missing
abbrev pub invariant-loop-kind : goal.invariant-loop-kind
invariant-loop-kind l =
    union_from (λ j. union (row_two l.p j) l.b) (drop l.kind-index l.kinds) l.a l.out
    ≡ union_from (λ j. union (row_two l.p j) l.b) l.kinds l.a 0
