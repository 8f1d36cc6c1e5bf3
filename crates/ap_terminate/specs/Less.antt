-- One step of the order on lists of terms.
use Rattle.std.specs.Prelude.{Bool, ◌&&◌, List, [], ◌∷◌}
use Rattle.ap_term.specs.declared.term.Term.{Term, Call}
use Rattle.ap_world.specs.Names.{if_name, equal_name, less_name}
use Rattle.ap_world.specs.Recursion.{is_empty, t_constant, nil_constant}

-- neither list goes on
abbrev pub are_last : List Term → List Term → Bool
are_last xs ys = is_empty xs && is_empty ys

-- a is less than b, or they are equal and the rest decides
abbrev pub or_later : Term → Term → Term → Term
or_later a b rest = Call if_name (Call less_name (a ∷ b ∷ []) ∷ t_constant ∷ Call if_name (Call equal_name (a ∷ b ∷ []) ∷ rest ∷ nil_constant ∷ []) ∷ [])
