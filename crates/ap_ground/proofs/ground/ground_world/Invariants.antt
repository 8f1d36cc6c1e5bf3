use Rattle.std.proofs.Common.{◌≡◌, [], ◌++◌, map}
use Rattle.std.specs.Vec.Iter.{into_iter_items}
use Rattle.ap_list.specs.Lists.{Each}
use Rattle.ap_world.specs.declared.entry.Entry.TheVariants as entry
use Rattle.ap_world.specs.Sound.{GoodTheorem}
use Rattle.ap_world.specs.World.{function_of}
use Rattle.ap_world.specs.Ground.{ground}
use Rattle.ap_ground.proofs.Totality.{G}
use Rattle.ap_ground.proofs.ground.ground_world.Given as goal

-- with the rules that are to come, which are good, the world has the ground world's entries
abbrev pub invariant-loop-rule : goal.invariant-loop-rule
invariant-loop-rule l = record {
  can_next : goal.iterator-loop-rule.can_next l.rule-iterator;
  is_finite : goal.iterator-loop-rule.is_finite l.rule-iterator;
  whole : l.world.entries ++ map entry.Theorem (into_iter_items l.rule-iterator) ≡ ground;
  theory : l.world.theory ≡ record { disabled = [] };
  defined : function_of l.world.entries ≡ G;
  good : Each (GoodTheorem G) (into_iter_items l.rule-iterator);
}
