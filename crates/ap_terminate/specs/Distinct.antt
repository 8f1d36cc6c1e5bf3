-- What the program keeps beside the definitions of recursion while it goes through a body.
use Rattle.std.specs.Prelude.{List, ◌++◌}
use Rattle.ap_term.specs.declared.term.Term.{Term}
use Rattle.ap_term.specs.declared.term.Clause.{Clause}
use Rattle.ap_world.specs.declared.entry.Case.{Case}
use Rattle.ap_world.specs.Recursion.{without_repeats}

-- the calls, and then those of the others that aren't there yet
unfoldable pub with_distinct : List (List Term) → List (List Term) → List (List Term)
with_distinct seen cs = seen ++ without_repeats seen cs

-- a case under more tests, which come first
abbrev pub under_tests : List Term → Case → Case
under_tests ts k = record { tests = ts ++ k.tests; calls = k.calls }

-- a clause of these literals
abbrev pub clause_of : List Term → Clause
clause_of ts = record { 0 = ts }
