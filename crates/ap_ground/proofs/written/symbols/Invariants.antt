use Rattle.std.proofs.Common.{◌≡◌, take, map}
use Rattle.ap_value.specs.Values.{acl2}
use Rattle.ap_ground.proofs.written.symbols.Given as goal

-- the symbols of the names so far
abbrev pub invariant-loop-name : goal.invariant-loop-name
invariant-loop-name l = l.out ≡ map (λ n. acl2 n.now) (take l.name-index l.names)
