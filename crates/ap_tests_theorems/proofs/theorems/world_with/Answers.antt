use Rattle.std.proofs.Common.{◌≡◌, true, rules}
use Rattle.ap_world.specs.Names.{implies_name}
use Rattle.ap_world.specs.Sound.{known}
use Rattle.ap_world.specs.Ground.{two}
use Rattle.ap_world.specs.World.{function_of}
use Rattle.ap_tests_theorems.proofs.Handed.{itself_valid, with_theorem}
use Rattle.ap_tests_theorems.proofs.theorems.world_with.Goals as goal

pub add_theorem-added-requires-clause-valid : goal.add_theorem-added-requires-clause-valid
unfolding implies_name
add_theorem-added-requires-clause-valid g c =
    let k : known (function_of c.first_world-world.result.entries) (two implies_name c.term-h.result c.term-h.result) ≡ true = search rules in
    rw c.implies_itself-t.ensures (itself_valid c.first_world-world.result.entries c.recall_sound.ensures c.term-h.result k)

pub returns : goal.returns
returns g c =
    with_theorem c.add_theorem-added.result c.expect.result c.first_world-world.result c.add_theorem-added.new.self _ c.first_world-world.ensures c.add_theorem-added.ensures.ok c.expect.ensures
