-- What terms mean. Nothing here knows of proofs, rules, measures or threads.
use Rattle.std.specs.Prelude.{◌≡◌, ◌≢◌, ℕ, zero, suc, nat_eq, Bool, true, false, cond, List, [], ◌∷◌, map, length, zip, Option, Some, None, unwrap_or}
use Rattle.ap_list.specs.Lists.{AnyOf, all_some, lookup_by}
use Rattle.ap_value.specs.declared.symbol.Symbol.{Symbol}
use Rattle.ap_value.specs.Values.{V, val_of, symbol_eq, value_eq}
use Rattle.ap_term.specs.declared.term.Term.{Term, fold-Term}
use Rattle.ap_term.specs.declared.term.Term.TheOpen.{Term-F}
use Rattle.ap_world.specs.declared.entry.Function.{Function}
use Rattle.ap_world.specs.Primitives.{nil, Prim, If, prim, prim_of}

-- an assignment of values to variables
abbrev pub Env : Type 0
Env = List (Symbol × V)

-- a variable's value; one without a pair has nil
abbrev pub value_at : Env → Symbol → V
value_at e x = unwrap_or (lookup_by symbol_eq e x) nil

-- what each name is defined as, if it is
abbrev pub Defs : Type 0
Defs = Symbol → Option Function

-- what calls of defined functions give
abbrev pub Calls : Type 0
Calls = Symbol → List V → Option V

-- the branch that the test chooses; whether the other has a value doesn't matter
abbrev pub if_of : List (Option V) → Option V
if_of (Some a ∷ b ∷ c ∷ []) = cond (value_eq a nil) c b
if_of os = None

-- a call of a function at its arguments' values, none where an argument has none
abbrev pub applied : (List V → Option V) → Option (List V) → Option V
applied f None = None
applied f (Some vs) = f vs

-- a call of a primitive, and of another function
abbrev pub prim_call : Prim → List (Option V) → Option V
prim_call If os = if_of os
prim_call p os = applied (prim p) (all_some os)

abbrev pub head_call : Calls → Symbol → Option Prim → List (Option V) → Option V
head_call c f (Some p) os = prim_call p os
head_call c f None os = applied (c f) (all_some os)

-- the meaning of a term: a variable's value is the assignment's, a constant's its own, a call's that of its head
abbrev pub term_step : Calls → Term-F (Env → Option V) → Env → Option V
term_step c (Term-F.Var x) e = Some (value_at e x)
term_step c (Term-F.Quote v) e = Some (val_of v)
term_step c (Term-F.Call f ms) e = head_call c f (prim_of f) (map (λ m. m e) ms)

abbrev pub meaning : Calls → Term → Env → Option V
meaning c = fold-Term (Env → Option V) (term_step c)

-- the body's meaning, the formals standing for the arguments, where there are as many
abbrev pub body_value : Calls → Option Function → List V → Option V
body_value c None vs = None
body_value c (Some g) vs = cond (nat_eq (length g.formals) (length vs)) (meaning c g.body (zip g.formals vs)) None

-- calls with so many units: each call of a defined function takes one, and none is left for it at 0
abbrev pub calls : ℕ → Defs → Calls
calls zero D f vs = None
calls (suc n) D f vs = body_value (calls n D) (D f) vs

-- the value of a term with so many units, or none
abbrev pub ev : ℕ → Defs → Term → Env → Option V
ev n D t e = meaning (calls n D) t e

-- some number of units gives the term this value
abbrev pub HasValue : Defs → Term → Env → V → Type 0
HasValue D t e v = (n : ℕ) × (ev n D t e ≡ Some v)

-- some number of units gives the call this value
abbrev pub CallValue : Defs → Symbol → List V → V → Type 0
CallValue D f vs v = (n : ℕ) × (calls n D f vs ≡ Some v)

-- every function has a value at all arguments
abbrev pub Total : Defs → Type 0
Total D = (f : Symbol) (g : Function) (vs : List V) → D f ≡ Some g → length g.formals ≡ length vs → (v : V) × CallValue D f vs v

-- under an assignment a term has a value other than nil
abbrev pub IsHeld : Defs → Env → Term → Type 0
IsHeld D e u = (v : V) × HasValue D u e v × (v ≢ nil)

-- under every assignment some literal of the clause has a value other than nil
abbrev pub Valid : Defs → List Term → Type 0
Valid D c = (e : Env) → AnyOf (IsHeld D e) c

-- a fact holds: its term isn't nil, or is nil
abbrev pub FactHolds : Defs → Env → Term × Bool → Type 0
FactHolds D e (u, true) = IsHeld D e u
FactHolds D e (u, false) = HasValue D u e nil
