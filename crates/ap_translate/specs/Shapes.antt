-- The shapes of `cond`, `let` and `lambda`.
use Rattle.std.specs.Prelude.{ℕ, Bool, true, false, cond, List, [], ◌∷◌, Option, Some, None, is_some, option_map, codes, ℤ, neg_ℤ, negsuc, ◌^◌, ◌-◌}
use Rattle.std.specs.List.{list_all}
use Rattle.ap_value.specs.declared.symbol.Symbol.{Symbol}
use Rattle.ap_value.specs.Values.{int_eq}
use Rattle.ap_reader.specs.declared.form.Form.{Form}
use Rattle.ap_translate.specs.declared.shapes.Clause.{Clause}
use Rattle.ap_translate.specs.declared.shapes.Clause.TheVariants as seen
use Rattle.ap_translate.specs.declared.shapes.Binding.{Binding}
use Rattle.ap_translate.specs.declared.shapes.Scoped.{Scoped}
use Rattle.ap_world.specs.Names.{nil_name}
use Rattle.ap_translate.specs.Parts.{symbol_in, items_in, integer_in, is_symbol, is_declare}

-- a clause of `cond`: (a), (a b), or (t b), after which no more are looked at
pub data Arm : Type 0 where
  alone : Form → Arm
  pair : Form → Form → Arm
  otherwise : Form → Arm

abbrev pub arm_by : Option (List Form) → Option Arm
arm_by (Some (f ∷ [])) = Some (alone f)
arm_by (Some (f ∷ g ∷ [])) = Some (cond (is_symbol (codes "T") f) (otherwise g) (pair f g))
arm_by fs = None

abbrev pub arm_in : Form → Option Arm
arm_in f = arm_by (items_in f)

abbrev pub arm_seen : Clause → Arm
arm_seen (seen.Alone f) = alone f.now
arm_seen (seen.Pair f g) = pair f.now g.now
arm_seen (seen.Otherwise g) = otherwise g.now

-- b of (t b)
abbrev pub last_in : Arm → Option Form
last_in (otherwise g) = Some g
last_in x = None

-- what is looked at is of this shape
abbrev pub after_arm : Option Arm → Bool → Bool
after_arm None b = false
after_arm (Some (alone f)) b = b
after_arm (Some (pair f g)) b = b
after_arm (Some (otherwise g)) b = true

abbrev pub are_arms : List Form → Bool
are_arms [] = true
are_arms (f ∷ fs) = after_arm (arm_in f) (are_arms fs)

-- (v e), whose v is a symbol
pub record Bind : Type 0 where
  pub place : ℕ
  pub name : Symbol
  pub value : Form

abbrev pub name_of : Option (Symbol) → Symbol
name_of None = nil_name
name_of (Some s) = s

abbrev pub bind_seen : Binding → Bind
bind_seen x = record { place = x.place; name = name_of (option_map (λ s. s.now) x.name); value = x.value.now }

abbrev pub binding_by : Option (List Form) → Option Bind
binding_by (Some (v ∷ e ∷ [])) = option_map (λ s. record { place = v.place; name = s; value = e }) (symbol_in v)
binding_by fs = None

abbrev pub binding_in : Form → Option Bind
binding_in f = binding_by (items_in f)

-- a body after declarations, which are passed over
abbrev pub body_in : List Form → Option Form
body_in [] = None
body_in (f ∷ []) = Some f
body_in (f ∷ g ∷ fs) = cond (is_declare f) (body_in (g ∷ fs)) None

-- forms of variables or of bindings, and a body
pub record Scope : Type 0 where
  pub heads : List Form
  pub body : Form

abbrev pub scope_seen : Scoped → Scope
scope_seen s = record { heads = s.heads.now; body = s.body.now }

abbrev pub scope_by : (Form → Bool) → Option (List Form) → Option Form → Option Scope
scope_by good (Some hs) (Some f) = cond (list_all good hs) (Some (record { heads = hs; body = f })) None
scope_by good hs f = None

abbrev pub scope_in : (Form → Bool) → List Form → Option Scope
scope_in good [] = None
scope_in good (x ∷ fs) = scope_by good (items_in x) (body_in fs)

abbrev pub is_binding : Form → Bool
is_binding f = is_some (binding_in f)

abbrev pub is_symbolic : Form → Bool
is_symbolic f = is_some (symbol_in f)

-- the arguments of `let` and `let*`
abbrev pub let_in : List Form → Option Scope
let_in = scope_in is_binding

-- (lambda (v ..) body)
abbrev pub lambda_by : Option (List Form) → Option Scope
lambda_by (Some (h ∷ fs)) = cond (is_symbol (codes "LAMBDA") h) (scope_in is_symbolic fs) None
lambda_by fs = None

abbrev pub lambda_in : Form → Option Scope
lambda_in f = lambda_by (items_in f)

-- an integer whose negation has 128 bits is negated
abbrev pub negated : Option ℤ → Option ℤ
negated None = None
negated (Some n) = cond (int_eq n (negsuc (2 ^ 127 - 1))) None (Some (neg_ℤ n))

-- a and the negation of k in (- a k)
abbrev pub less_literal : List Form → Option (Form × ℤ)
less_literal (f ∷ g ∷ []) = option_map (λ n. (f, n)) (negated (integer_in g))
less_literal fs = None

-- as the program sees it: a by itself
abbrev pub literal_seen : Form × ℤ → List Form × ℤ
literal_seen k = (k.0 ∷ [], k.1)
