-- Functions, entries and worlds that are alike: the same but for the masks of functions.
use Rattle.std.specs.Prelude.{◌≡◌, Bool, true, false, ◌&&◌, List, [], ◌∷◌, Option, Some, None}
use Rattle.ap_value.specs.declared.symbol.Symbol.{Symbol}
use Rattle.ap_value.specs.Equal.{constant_eq}
use Rattle.ap_value.specs.Values.{symbol_eq}
use Rattle.ap_term.specs.Equal.{term_eq}
use Rattle.ap_world.specs.declared.entry.Case.{Case}
use Rattle.ap_world.specs.declared.entry.Measure.{Measure}
use Rattle.ap_world.specs.declared.entry.Function.{Function}
use Rattle.ap_world.specs.declared.entry.RuleClass.{RuleClass}
use Rattle.ap_world.specs.declared.entry.RuleClass.TheVariants as class
use Rattle.ap_world.specs.declared.entry.Entry.{Entry}
use Rattle.ap_world.specs.declared.entry.Entry.TheVariants as entry
use Rattle.ap_world.specs.Meaning.{Defs}
use Rattle.ap_world.specs.Recursion.{args_eq}
use Rattle.ap_world.specs.World.{entry_of}

-- two functions are one, whatever their masks
pub record SameFunction (f g : Function) : Type 0 where
  pub name : f.name ≡ g.name
  pub formals : f.formals ≡ g.formals
  pub body : f.body ≡ g.body
  pub measure : f.measure ≡ g.measure
  pub cases : f.cases ≡ g.cases

-- two entries are one but for a mask
abbrev pub SameButMask : Entry → Entry → Type 0
SameButMask (entry.Function f) (entry.Function g) = SameFunction f g
SameButMask y z = y ≡ z

-- the same as a test: two lists are one where their elements are, one by one
abbrev pub lists_eq : {A : Type 0} → (A → A → Bool) → List A → List A → Bool
lists_eq same [] [] = true
lists_eq same (x ∷ xs) (y ∷ ys) = same x y && lists_eq same xs ys
lists_eq same xs ys = false

abbrev pub measure_eq : Option Measure → Option Measure → Bool
measure_eq None None = true
measure_eq (Some m) (Some n) = args_eq m.0 n.0
measure_eq o p = false

abbrev pub case_eq : Case → Case → Bool
case_eq j k = args_eq j.tests k.tests && lists_eq args_eq j.calls k.calls

abbrev pub class_eq : RuleClass → RuleClass → Bool
class_eq class.Rewrite class.Rewrite = true
class_eq class.Linear class.Linear = true
class_eq class.TypePrescription class.TypePrescription = true
class_eq class.Elim class.Elim = true
class_eq c d = false

abbrev pub alike_entry : Entry → Entry → Bool
alike_entry (entry.Function f) (entry.Function g) =
    symbol_eq f.name g.name && lists_eq symbol_eq f.formals g.formals && term_eq f.body g.body && measure_eq f.measure g.measure && lists_eq case_eq f.cases g.cases
alike_entry (entry.Theorem t) (entry.Theorem u) = symbol_eq t.name u.name && term_eq t.term u.term && lists_eq class_eq t.classes u.classes
alike_entry (entry.Constant c v) (entry.Constant d w) = symbol_eq c d && constant_eq v w
alike_entry y z = false

-- E defines all that D does, with the same formals and bodies
abbrev pub DefinesAlike : Defs → Defs → Type 0
DefinesAlike D E = (f : Symbol) (g : Function) → D f ≡ Some g → (h : Function) × (E f ≡ Some h) × (g.formals ≡ h.formals) × (g.body ≡ h.body)

-- the second world has each entry of the first, masks aside
abbrev pub Covers : List Entry → List Entry → Type 0
Covers W U = (x : Symbol) (y : Entry) → entry_of W x ≡ Some y → (z : Entry) × (entry_of U x ≡ Some z) × SameButMask y z
