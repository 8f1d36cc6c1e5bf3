use Rattle.std.proofs.Common.{◌≡◌, true, [], ◌∷◌, pos, sym, subst}
use Rattle.ap_value.specs.declared.value.Value.TheVariants.{Int}
use Rattle.ap_term.specs.declared.term.Term.{Term, Quote, Call}
use Rattle.ap_world.specs.Names.{equal_name}
use Rattle.ap_world.specs.Meaning.{Defs, Total, Valid}
use Rattle.ap_world.specs.Laws.{EqualSidesAreValid}
use Rattle.ap_world.specs.Sound.{known}
use Rattle.ap_world.specs.World.{function_of}
use Rattle.ap_world.proofs.Equations.{knowing}
use Rattle.ap_tests_world.proofs.worlds.add_same_sides.Goals as goal

sides_known : (D : Defs) → known D (Call equal_name (Quote (Int (pos 7)) ∷ Quote (Int (pos 7)) ∷ [])) ≡ true
sides_known D = simp knowing

sides_valid : (D : Defs) (u : Term) → EqualSidesAreValid → Total D → u ≡ Call equal_name (Quote (Int (pos 7)) ∷ Quote (Int (pos 7)) ∷ []) → Valid D (u ∷ [])
sides_valid D u law total is = rw is (law D total (Quote (Int (pos 7))) (simp knowing))

pub add_theorem-requires-clause-known : goal.add_theorem-requires-clause-known
add_theorem-requires-clause-known c = rw c.in_ok-term.ensures (sides_known (function_of c.args.world.now.entries))

pub add_theorem-requires-clause-valid : goal.add_theorem-requires-clause-valid
add_theorem-requires-clause-valid c = sides_valid (function_of c.args.world.now.entries) c.in_ok-term.term c.equal_sides_are_valid.ensures c.recall_sound.ensures.total c.in_ok-term.ensures
