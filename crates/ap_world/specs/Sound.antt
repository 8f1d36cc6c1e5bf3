-- When a list of entries is sound. This is what a certified book promises, and it speaks of meanings alone.
use Rattle.std.specs.Prelude.{◌≡◌, ℕ, nat_eq, Bool, true, false, ◌&&◌, IsTrue, IfSome, List, [], ◌∷◌, map, length, Option, Some, None}
use Rattle.ap_list.specs.Lists.{Each, all_true, is_distinct, is_within}
use Rattle.ap_value.specs.declared.symbol.Symbol.{Symbol}
use Rattle.ap_value.specs.Values.{V, symbol_eq}
use Rattle.ap_term.specs.declared.term.Term.{Term, fold-Term}
use Rattle.ap_term.specs.declared.term.Term.TheOpen.{Term-F}
use Rattle.ap_term.specs.Terms.{vars_after}
use Rattle.ap_world.specs.declared.entry.Measure.{Measure}
use Rattle.ap_world.specs.declared.entry.Function.{Function}
use Rattle.ap_world.specs.declared.entry.Theorem.{Theorem}
use Rattle.ap_world.specs.declared.entry.Entry.{Entry}
use Rattle.ap_world.specs.declared.entry.Entry.TheVariants as entry
use Rattle.ap_world.specs.Primitives.{Prim, prim_of, prim_arity}
use Rattle.ap_world.specs.Meaning.{Defs, Total, Valid, CallValue}
use Rattle.ap_world.specs.Types.{Has}
use Rattle.ap_world.specs.Recursion.{has_no_call, cases_of, is_unnested, natural_obligations, falling_obligations}
use Rattle.ap_world.specs.World.{function_of}
unfoldable pub use Rattle.ap_world.specs.Ground.{not_function}
use Rattle.ap_world.specs.Ground.{ground_functions, named_in}

-- a call of a primitive or of a function, with its number of arguments
abbrev pub takes : Option Function → ℕ → Bool
takes None n = false
takes (Some g) n = nat_eq (length g.formals) n

abbrev pub is_head : Defs → Symbol → Option Prim → ℕ → Bool
is_head D f (Some p) n = nat_eq (prim_arity p) n
is_head D f None n = takes (D f) n

-- each call in a term is one of a primitive or a function, with its number of arguments
abbrev pub known_step : Defs → Term-F Bool → Bool
known_step D (Term-F.Var x) = true
known_step D (Term-F.Quote v) = true
known_step D (Term-F.Call f ks) = is_head D f (prim_of f) (length ks) && all_true ks

abbrev pub known : Defs → Term → Bool
known D = fold-Term Bool (known_step D)

-- the components of a measure
abbrev pub components : Option Measure → List Term
components None = []
components (Some m) = m.0

-- each variable of the terms is a formal
abbrev pub speaks_of : List Symbol → Term → Bool
speaks_of formals u = is_within symbol_eq (vars_after u []) formals

-- the functions whose definitions are given: those of the ground world
abbrev pub given_function : Symbol → Option Function
given_function = named_in ground_functions

-- each function of the ground world is there as it is given
abbrev pub HasFunctions : Defs → Type 0
HasFunctions D = Each (λ f. D f.name ≡ Some f) ground_functions

-- two functions are defined alike, whatever their masks
pub record DefinedAlike (f g : Function) : Type 0 where
  pub formals : f.formals ≡ g.formals
  pub body : f.body ≡ g.body
  pub measure : f.measure ≡ g.measure

-- a recursive function: its cases are those of its body, whose recursion isn't nested; each component of
-- its measure is a natural number, and the measure falls at each call
pub record IsRecursive (D : Defs) (f : Function) (m : List Term) : Type 0 where
  pub recurs : has_no_call f.name f.body ≡ false
  pub unnested : is_unnested f.name f.body ≡ true
  pub cases : f.cases ≡ cases_of f.name f.body
  pub natural : Each (Valid D) (natural_obligations m)
  pub falls : Each (Valid D) (falling_obligations f.formals m f.cases)

-- a function without a measure doesn't call itself, and has no cases
pub record IsPlain (f : Function) : Type 0 where
  pub plain : has_no_call f.name f.body ≡ true
  pub cases : f.cases ≡ []

abbrev pub Recurs : Defs → Function → Option Measure → Type 0
Recurs D f None = IsPlain f
Recurs D f (Some m) = IsRecursive D f m.0

-- a function that may stand in a world
pub record GoodFunction (D : Defs) (f : Function) : Type 0 where
  pub formals : IsTrue (is_distinct symbol_eq f.formals)
  pub body_speaks : IsTrue (speaks_of f.formals f.body)
  pub measure_speaks : IsTrue (all_true (map (speaks_of f.formals) (components f.measure)))
  pub body_known : IsTrue (known D f.body)
  pub measure_known : IsTrue (all_true (map (known D) (components f.measure)))
  pub given : IfSome (given_function f.name) (DefinedAlike f)
  pub recursion : Recurs D f f.measure
  pub mask : (vs : List V) (v : V) → length f.formals ≡ length vs → CallValue D f.name vs v → Has f.mask v

-- a theorem that may: each call in it is known, and it is valid
pub record GoodTheorem (D : Defs) (u : Theorem) : Type 0 where
  pub term_known : IsTrue (known D u.term)
  pub valid : Valid D (u.term ∷ [])

abbrev pub Good : Defs → Entry → Type 0
Good D (entry.Function f) = GoodFunction D f
Good D (entry.Theorem u) = GoodTheorem D u
Good D (entry.Constant c v) = Unit {0}

-- every function is total, every entry is good
pub record Sound (W : List Entry) : Type 0 where
  pub total : Total (function_of W)
  pub good : Each (Good (function_of W)) W
