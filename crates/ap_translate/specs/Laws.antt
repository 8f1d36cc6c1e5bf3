-- What the terms that forms are have in common.
use Rattle.std.specs.Prelude.{◌≡◌, ℕ, IsTrue, List, Some, Ok}
use Rattle.ap_value.specs.declared.symbol.Symbol.{Symbol}
use Rattle.ap_value.specs.declared.value.Value.{Value}
use Rattle.ap_term.specs.declared.term.Term.{Term, Quote}
use Rattle.ap_reader.specs.declared.form.Form.{Form}
use Rattle.ap_world.specs.declared.entry.Entry.{Entry}
use Rattle.ap_world.specs.Alike.{Covers}
use Rattle.ap_world.specs.Names.{not_name, append_name}
use Rattle.ap_world.specs.Meaning.{Defs}
use Rattle.ap_world.specs.Sound.{takes}
use Rattle.ap_world.specs.World.{constant_of}
use Rattle.ap_translate.specs.Answers.{each}
use Rattle.ap_translate.specs.Plans.{arity_in}
use Rattle.ap_translate.specs.Table.{Bound, translated}

-- the world has the two functions, besides primitives, that macros stand for: `not` and `binary-append`
pub record HasMacroFunctions (D : Defs) : Type 0 where
  pub negates : IsTrue (takes (D not_name) 1)
  pub appends : IsTrue (takes (D append_name) 2)

-- in each world, whatever variables are bound, a form is the constant of this value
abbrev pub IsConstant : Form → Value → Type 0
IsConstant f v = (W : List Entry) (b : Bound) → translated W b f ≡ Ok (Quote v)

-- the second world has the constants of the first, and its functions with as many arguments
pub record KnowsMore (W U : List Entry) : Type 0 where
  pub constants : (s : Symbol) (v : Value) → constant_of W s ≡ Some v → constant_of U s ≡ Some v
  pub arities : (s : Symbol) (n : ℕ) → arity_in W s ≡ Some n → arity_in U s ≡ Some n

-- a form that is a term where less is known is the same term where more is known
abbrev pub MoreIsTranslated : Type 0
MoreIsTranslated = (W U : List Entry) → KnowsMore W U → (b : Bound) (f : Form) (u : Term) → translated W b f ≡ Ok u → translated U b f ≡ Ok u

-- so are forms one after another
abbrev pub MoreAreTranslated : Type 0
MoreAreTranslated = (W U : List Entry) → KnowsMore W U → (b : Bound) (fs : List Form) (us : List Term) → each (translated W b) fs ≡ Ok us → each (translated U b) fs ≡ Ok us

-- a world that covers another one knows more
abbrev pub CoversKnowsMore : Type 0
CoversKnowsMore = (W U : List Entry) → Covers W U → KnowsMore W U
