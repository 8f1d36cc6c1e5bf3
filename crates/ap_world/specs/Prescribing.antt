-- The theorems of the class of type prescriptions, by the function that they are about. See the manual's
-- topic `type-prescription`.
use Rattle.std.specs.Prelude.{Bool, true, false, cond, List, [], ◌∷◌, Option, Some, None}
use Rattle.ap_value.specs.declared.symbol.Symbol.{Symbol}
use Rattle.ap_value.specs.Values.{symbol_eq}
use Rattle.ap_term.specs.declared.term.Term.{Term, out-Term}
use Rattle.ap_term.specs.declared.term.Term.TheOpen.{Term-F}
use Rattle.ap_world.specs.declared.entry.RuleClass.{RuleClass}
use Rattle.ap_world.specs.declared.entry.RuleClass.TheVariants as class
use Rattle.ap_world.specs.declared.entry.Theorem.{Theorem}
use Rattle.ap_world.specs.declared.entry.Entry.{Entry}
use Rattle.ap_world.specs.declared.entry.Entry.TheVariants as entry

-- the classes have that of type prescriptions
abbrev pub prescribes : List RuleClass → Bool
prescribes [] = false
prescribes (class.TypePrescription ∷ cs) = true
prescribes (c ∷ cs) = prescribes cs

-- the name that a call calls
abbrev pub called : Term-F Term → Option Symbol
called (Term-F.Call f ts) = Some f
called y = None

-- the name that the argument calls, of a call of one argument
abbrev pub argument_called : Term-F Term → Option Symbol
argument_called (Term-F.Call r (a ∷ [])) = called (out-Term a)
argument_called y = None

-- the function that a theorem of the class is about
abbrev pub prescribed : Theorem → Option Symbol
prescribed u = cond (prescribes u.classes) (argument_called (out-Term u.term)) None

abbrev pub is_name : Symbol → Option Symbol → Bool
is_name f None = false
is_name f (Some g) = symbol_eq f g

-- the theorems of the class that are about f, in their order. What else a rule asks of its term isn't asked here.
abbrev pub theorems_about : Symbol → List Entry → List Theorem
theorems_about f [] = []
theorems_about f (entry.Theorem u ∷ ys) = cond (is_name f (prescribed u)) (u ∷ theorems_about f ys) (theorems_about f ys)
theorems_about f (y ∷ ys) = theorems_about f ys
