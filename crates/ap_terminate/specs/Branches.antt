-- An `if` whose branches tell cases apart.
use Rattle.std.specs.Prelude.{cond, ◌&&◌, Option, Some, None}
use Rattle.ap_value.specs.declared.symbol.Symbol.{Symbol}
use Rattle.ap_term.specs.declared.term.Term.{Term}
use Rattle.ap_world.specs.Shapes.{Shape, choice}
use Rattle.ap_world.specs.Recursion.{has_no_call}

-- the test and the branches of an `if` of which a branch has a call of F
abbrev pub branches : Symbol → Shape Term → Option (Term × Term × Term)
branches F (choice a b c) = cond (has_no_call F b && has_no_call F c) None (Some (a, b, c))
branches F y = None
