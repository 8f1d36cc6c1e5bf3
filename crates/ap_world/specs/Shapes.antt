-- A term by what its head is, of those that proofs and types look at.
use Rattle.std.specs.Prelude.{Bool, true, false, cond, not, List, [], ◌∷◌}
use Rattle.ap_value.specs.declared.symbol.Symbol.{Symbol}
use Rattle.ap_value.specs.declared.value.Value.{Value}
use Rattle.ap_value.specs.Values.{val_of, symbol_eq, value_eq}
use Rattle.ap_term.specs.declared.term.Term.{Term, out-Term}
use Rattle.ap_term.specs.declared.term.Term.TheOpen.{Term-F}
use Rattle.ap_world.specs.Names.{if_name, not_name, equal_name, cons_name}
use Rattle.ap_world.specs.Primitives.{nil}

-- a constant, (if a b c), (not a), (equal a b), (cons a b), or another term
pub data Shape (A : Type 0) : Type 0 where
  constant : Value → Shape A
  choice : A → A → A → Shape A
  negation : A → Shape A
  equation : A → A → Shape A
  pair : A → A → Shape A
  other : Shape A

-- what a head is
pub data Head : Type 0 where
  if_head : Head
  not_head : Head
  equal_head : Head
  cons_head : Head
  other_head : Head

abbrev pub head_by : Bool → Bool → Bool → Bool → Head
head_by i n e c = cond i if_head (cond n not_head (cond e equal_head (cond c cons_head other_head)))

unfoldable pub head_of : Symbol → Head
head_of f = head_by (symbol_eq f if_name) (symbol_eq f not_name) (symbol_eq f equal_name) (symbol_eq f cons_name)

-- a call by its head, where it has the head's number of arguments
abbrev pub call_shape : {A : Type 0} → Head → List A → Shape A
call_shape if_head (a ∷ b ∷ c ∷ []) = choice a b c
call_shape not_head (a ∷ []) = negation a
call_shape equal_head (a ∷ b ∷ []) = equation a b
call_shape cons_head (a ∷ b ∷ []) = pair a b
call_shape h ts = other

abbrev pub layer_shape : {A : Type 0} → Term-F A → Shape A
layer_shape (Term-F.Var x) = other
layer_shape (Term-F.Quote v) = constant v
layer_shape (Term-F.Call f ts) = call_shape (head_of f) ts

abbrev pub shape_of : Term → Shape Term
shape_of u = layer_shape (out-Term u)

-- a constant that means something else than nil, where the sign is true, or nil, where it is false
abbrev pub constant_says : Bool → Shape Term → Bool
constant_says true (constant v) = not (value_eq (val_of v) nil)
constant_says false (constant v) = value_eq (val_of v) nil
constant_says s y = false

abbrev pub is_constant : Bool → Term → Bool
is_constant s u = constant_says s (shape_of u)
