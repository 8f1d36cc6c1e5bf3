use Rattle.std.proofs.Common.{◌≡◌, map, drop}
use Rattle.ap_list.specs.Lists.{lookup_by}
use Rattle.ap_value.specs.Values.{bytes_eq}
use Rattle.ap_world.proofs.recognisers.find_bytes.Given as goal

-- what is left of the table has the answer
abbrev pub invariant-loop-name : goal.invariant-loop-name
invariant-loop-name l =
    lookup_by bytes_eq (map (λ p. (p.0.now, p.1)) (drop l.name-index l.table)) l.bytes
    ≡ lookup_by bytes_eq (map (λ p. (p.0.now, p.1)) l.table) l.bytes
