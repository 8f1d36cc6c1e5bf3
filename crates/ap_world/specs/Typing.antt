-- The types that a term's value can have under facts. See the manual's topic `type-set`.
use Rattle.std.specs.Prelude.{ℕ, Bool, true, false, cond, ◌&&◌, ◌||◌, nat_eq, List, [], ◌∷◌, map, Option, Some, None}
use Rattle.std.specs.Int.Bits.{bit_and, bit_or}
use Rattle.ap_list.specs.Lists.{all_true, is_distinct}
use Rattle.ap_value.specs.declared.symbol.Symbol.{Symbol}
use Rattle.ap_value.specs.Values.{val_of}
use Rattle.ap_term.specs.declared.term.Term.{Term, out-Term, para-Term}
use Rattle.ap_term.specs.declared.term.Term.TheOpen.{Term-F}
use Rattle.ap_term.specs.Equal.{term_eq}
use Rattle.ap_world.specs.declared.entry.Function.{Function}
use Rattle.ap_world.specs.declared.entry.Theorem.{Theorem}
use Rattle.ap_world.specs.declared.theory.Rune.TheVariants as rune
use Rattle.ap_world.specs.declared.theory.Theory.{Theory}
use Rattle.ap_world.specs.declared.primitive.Primitive.{Primitive as Prim}
use Rattle.ap_world.specs.declared.primitive.Primitive.TheVariants.{If, Coerce}
use Rattle.ap_world.specs.Primitives.{prim_of}
use Rattle.ap_world.specs.Types.{nil_bit}
use Rattle.ap_world.specs.World.{Shown, function_of}
use Rattle.ap_world.specs.Prescribing.{theorems_about}
use Rattle.ap_world.specs.Theories.{is_enabled}
use Rattle.ap_world.specs.Facts.{Facts}
use Rattle.ap_world.specs.Assume.{whole, assume}
use Rattle.ap_world.specs.Kinds.{bit, kind_of, all, without, meets, if_so}
use Rattle.ap_world.specs.Rows.{recognised, tested, test_types, over_one, over_two, coerce_types}
use Rattle.ap_world.specs.Narrowing.{cut}

-- a term that is a variable
abbrev pub is_variable : Term-F Term → Bool
is_variable (Term-F.Var x) = true
is_variable y = false

abbrev pub are_distinct_variables : List Term → Bool
are_distinct_variables ts = all_true (map (λ u. is_variable (out-Term u)) ts) && is_distinct term_eq ts

-- the types that a recogniser leaves to a call of distinct variables; all to another term
abbrev pub types_on : Option ℕ → Term-F Term → ℕ
types_on (Some r) (Term-F.Call f ts) = cond (are_distinct_variables ts) r all
types_on o y = all

-- the types that a term leaves to the call that it is a recogniser on
abbrev pub prescribed_types : Term-F Term → ℕ
prescribed_types (Term-F.Call r (a ∷ [])) = types_on (recognised r) (out-Term a)
prescribed_types y = all

-- the types that a theorem leaves to the calls of the function that it is about, where it is enabled
abbrev pub left_by : Theory → Theorem → ℕ
left_by h u = cond (is_enabled h (rune.TypePrescription u.name)) (prescribed_types (out-Term u.term)) all

-- a mask cut by theorems
abbrev pub narrowed : Theory → List Theorem → ℕ → ℕ
narrowed h [] m = m
narrowed h (u ∷ us) m = narrowed h us (bit_and m (left_by h u))

-- a function's kept mask
abbrev pub kept_of : Option Function → ℕ
kept_of None = all
kept_of (Some g) = g.mask.0

-- the types of a function's calls, whatever the arguments: its kept mask cut by the theorems about it, where
-- its type-prescription rune is enabled
abbrev pub function_types : Shown → Symbol → ℕ
function_types w f = cond (is_enabled w.theory (rune.TypePrescription f)) (narrowed w.theory (theorems_about f w.entries) (kept_of (function_of w.entries f))) all

-- an argument has no type
abbrev pub any_empty : List ℕ → Bool
any_empty [] = false
any_empty (m ∷ ms) = nat_eq m 0 || any_empty ms

-- the parts of an `if`
abbrev pub if_parts : {A : Type 0} → Option Prim → List A → Option (A × A × A)
if_parts (Some If) (a ∷ b ∷ c ∷ []) = Some (a, b, c)
if_parts o ps = None

-- what an `if` can be, by the types of its test and of its branches
abbrev pub chosen_types : ℕ → ℕ → ℕ → ℕ
chosen_types m b c = bit_or (if_so (meets m (without nil_bit)) b) (if_so (meets m nil_bit) c)

-- what follows is told the types of the calls of each function
module _ (K : Symbol → ℕ) where
  abbrev pub one_types : Symbol → Option Prim → Option ℕ → ℕ → ℕ
  one_types f o (Some r) m = test_types r m
  one_types f (Some p) None m = over_one p m
  one_types f None None m = K f

  abbrev pub two_types : Symbol → Option Prim → List Term → ℕ → ℕ → ℕ
  two_types f (Some Coerce) ts m n = coerce_types ts
  two_types f (Some p) ts m n = over_two p m n
  two_types f None ts m n = K f

  abbrev pub other_types : Symbol → Option Prim → ℕ
  other_types f (Some p) = all
  other_types f None = K f

  abbrev pub table : Symbol → Option Prim → List Term → List ℕ → ℕ
  table f o ts (m ∷ []) = one_types f o (tested f) m
  table f o ts (m ∷ n ∷ []) = two_types f o ts m n
  table f o ts ms = other_types f o

  -- a call by its head, its arguments and their masks
  abbrev pub call_types : Symbol → Option Prim → List Term → List ℕ → ℕ
  call_types f o ts ms = cond (any_empty ms) 0 (table f o ts ms)

  -- an `if` by its branches under its test, and another call
  abbrev pub split_types : Symbol → Option Prim → List (Term × (Facts → ℕ)) → Facts → Option ((Term × (Facts → ℕ)) × (Term × (Facts → ℕ)) × (Term × (Facts → ℕ))) → ℕ
  split_types f o ps fs (Some (a, b, c)) = chosen_types (a.1 fs) (b.1 (assume fs a.0 true)) (c.1 (assume fs a.0 false))
  split_types f o ps fs None = call_types f o (map (λ p. p.0) ps) (map (λ p. p.1 fs) ps)

  abbrev pub head_types : Symbol → Option Prim → List (Term × (Facts → ℕ)) → Facts → ℕ
  head_types f o ps fs = split_types f o ps fs (if_parts o ps)

  -- a term's types by its form, the facts on the term itself left aside
  abbrev pub form_types : Term-F (Term × (Facts → ℕ)) → Facts → ℕ
  form_types (Term-F.Var x) fs = all
  form_types (Term-F.Quote v) fs = bit (kind_of (val_of v))
  form_types (Term-F.Call f ps) fs = head_types f (prim_of f) ps fs

  abbrev pub types_step : Term-F (Term × (Facts → ℕ)) → Facts → ℕ
  types_step y fs = cut fs (whole y) (form_types y fs)

  abbrev pub types_by : Term → Facts → ℕ
  types_by = para-Term (Facts → ℕ) types_step

-- the types of a term in a world, under facts
abbrev pub types : Shown → Facts → Term → ℕ
types w fs u = types_by (function_types w) u fs
