-- What evaluation gives and what it costs: the meaning of terms, run on the values that a program holds, with
-- units that each part spends.
use Rattle.std.specs.Prelude.{ℕ, zero, suc, ◌-◌, ◌^◌, ◌%◌, Bool, true, false, cond, ℤ, pos, negsuc, ◌+ℤ◌, ◌*ℤ◌, neg_ℤ, int_lt, nat_lt, nat_eq, List, [], ◌∷◌, map, length, zip, Option, Some, None, unwrap_or}
use Rattle.ap_list.specs.Lists.{lookup_by}
use Rattle.ap_value.specs.declared.symbol.Symbol.{Symbol}
use Rattle.ap_value.specs.declared.value.Value.{Value, out-Value}
use Rattle.ap_value.specs.declared.value.Value.TheVariants.{Int, Chr, Str, Sym, Cons as Pair}
use Rattle.ap_value.specs.declared.value.Value.TheOpen.{Value-F}
use Rattle.ap_value.specs.Counts.{node_count}
use Rattle.ap_value.specs.Values.{Byte, val_of, symbol_eq, value_eq}
use Rattle.ap_term.specs.declared.term.Term.{Term, para-Term, Call}
use Rattle.ap_term.specs.declared.term.Term.TheOpen.{Term-F}
use Rattle.ap_world.specs.declared.entry.Function.{Function}
use Rattle.ap_world.specs.Names.{nil_name, t_name, list_name}
use Rattle.ap_world.specs.Primitives.{symbol_value, nil, Prim, If, Equal, Consp, Integerp, Symbolp, Stringp, Characterp, Cons, Car, Cdr, Plus, Times, Minus, Less, CharCode, CodeChar, SymbolName, Coerce, prim_of, is_cons, is_integer, is_symbol, is_string, is_character, int_of, chars_from}
use Rattle.ap_world.specs.Meaning.{Env, Defs}

-- nil, and t or nil
abbrev pub nil_constant : Value
nil_constant = Sym nil_name

abbrev pub truth_constant : Bool → Value
truth_constant true = Sym t_name
truth_constant false = nil_constant

-- an integer that 128 bits hold
unfoldable pub is_narrow : ℤ → Bool
is_narrow (pos n) = nat_lt n (2 ^ 127)
is_narrow (negsuc n) = nat_lt n (2 ^ 127)

-- the integer, where 128 bits hold it
abbrev pub narrow : ℤ → Option ℤ
narrow n = cond (is_narrow n) (Some n) None

abbrev pub int_constant : Option ℤ → Option Value
int_constant None = None
int_constant (Some n) = Some (Int n)

-- the parts of a cons; those of another value are nil
abbrev pub first_part : Value-F Value → Value
first_part (Value-F.Cons a b) = a
first_part y = nil_constant

abbrev pub rest_part : Value-F Value → Value
rest_part (Value-F.Cons a b) = b
rest_part y = nil_constant

-- a character's code; that of another value is 0
abbrev pub code_part : Value-F Value → Value
code_part (Value-F.Chr c) = Int (pos (c % 256))
code_part y = Int (pos 0)

-- the character of a code from 0 to 255; that of another value has code 0
abbrev pub character_part : Value-F Value → Value
character_part (Value-F.Int (pos n)) = Chr (cond (nat_lt n 256) n 0)
character_part y = Chr 0

-- a symbol's name; that of another value is the empty string
abbrev pub name_part : Value-F Value → Value
name_part (Value-F.Sym s) = Str s.name
name_part y = Str []

-- the list of characters
abbrev pub characters : List ℕ → Value
characters [] = nil_constant
characters (c ∷ cs) = Pair (Chr c) (characters cs)

abbrev pub list_part : Value-F Value → Value
list_part (Value-F.Str s) = characters s
list_part y = nil_constant

-- the codes of a list's characters
abbrev pub codes_in : Value → List ℕ
codes_in v = map (λ (b : Byte). b.code) (chars_from (val_of v))

abbrev pub coerced : Value → Value → Value
coerced x y = cond (value_eq (val_of y) (symbol_value list_name)) (list_part (out-Value x)) (Str (codes_in x))

-- a primitive of one argument
abbrev pub unary : Prim → Value → Option Value
unary Consp x = Some (truth_constant (is_cons (val_of x)))
unary Integerp x = Some (truth_constant (is_integer (val_of x)))
unary Symbolp x = Some (truth_constant (is_symbol (val_of x)))
unary Stringp x = Some (truth_constant (is_string (val_of x)))
unary Characterp x = Some (truth_constant (is_character (val_of x)))
unary Car x = Some (first_part (out-Value x))
unary Cdr x = Some (rest_part (out-Value x))
unary Minus x = int_constant (narrow (neg_ℤ (int_of (val_of x))))
unary CharCode x = Some (code_part (out-Value x))
unary CodeChar x = Some (character_part (out-Value x))
unary SymbolName x = Some (name_part (out-Value x))
unary p x = None

-- a primitive of two
abbrev pub binary : Prim → Value → Value → Option Value
binary Equal x y = Some (truth_constant (value_eq (val_of x) (val_of y)))
binary Cons x y = Some (Pair x y)
binary Plus x y = int_constant (narrow (int_of (val_of x) +ℤ int_of (val_of y)))
binary Times x y = int_constant (narrow (int_of (val_of x) *ℤ int_of (val_of y)))
binary Less x y = Some (truth_constant (int_lt (int_of (val_of x)) (int_of (val_of y))))
binary Coerce x y = Some (coerced x y)
binary p x y = None

-- the value of a primitive other than `if`: none where an integer leaves 128 bits (or the number of arguments is another)
abbrev pub prim_value : Prim → List Value → Option Value
prim_value p (x ∷ []) = unary p x
prim_value p (x ∷ y ∷ []) = binary p x y
prim_value p vs = None

-- what running gives: a value with the units left; or the first stop: an integer left 128 bits, at this call of
-- these arguments; the units ran out; a value has too many nodes
pub data Outcome (A : Type 0) : Type 0 where
  gives : A → ℕ → Outcome A
  wide : Term → List Value → Outcome A
  spent : Outcome A
  large : Outcome A

-- what comes next, where there is a value
abbrev pub after : {A B : Type 0} → Outcome A → (A → ℕ → Outcome B) → Outcome B
after (gives a n) k = k a n
after (wide t vs) k = wide t vs
after spent k = spent
after large k = large

-- an assignment of values that a program holds, and the one that it stands for
abbrev pub Assigned : Type 0
Assigned = List (Symbol × Value)

abbrev pub meant_by : Assigned → Env
meant_by e = map (λ p. (p.0, val_of p.1)) e

-- a variable's value; one without a pair has nil
abbrev pub found_at : Assigned → Symbol → Value
found_at e x = unwrap_or (lookup_by symbol_eq e x) nil_constant

-- the most nodes of a value
unfoldable pub most_nodes : ℕ
most_nodes = 4096

-- a value that isn't too large
abbrev pub sized : Value → ℕ → Outcome Value
sized v n = cond (nat_lt most_nodes (node_count v)) large (gives v n)

-- a variable's or a constant's value spends its nodes
abbrev pub charged : Value → ℕ → Outcome Value
charged v n = cond (nat_lt n (node_count v)) spent (sized v (n - node_count v))

-- what a term gives under an assignment, and what calls of defined functions give, with so many units
abbrev pub Run : Type 0
Run = Assigned → ℕ → Outcome Value

abbrev pub Runs : Type 0
Runs = Symbol → List Value → ℕ → Outcome Value

-- arguments are taken from left to right
abbrev pub in_order : List Run → Assigned → ℕ → Outcome (List Value)
in_order [] e n = gives [] n
in_order (m ∷ ms) e n = after (m e n) (λ v j. after (in_order ms e j) (λ vs k. gives (v ∷ vs) k))

-- of `if` the test and the branch that it chooses
abbrev pub chosen : List Run → Assigned → ℕ → Outcome Value
chosen (a ∷ b ∷ c ∷ []) e n = after (a e n) (λ v k. cond (value_eq (val_of v) nil) (c e k) (b e k))
chosen ms e n = spent

-- a primitive's answer, at its call
abbrev pub settled : Term → List Value → Option Value → ℕ → Outcome Value
settled t vs None n = wide t vs
settled t vs (Some v) n = sized v n

abbrev pub is_choice : Prim → Bool
is_choice If = true
is_choice p = false

-- a call, once it is entered
abbrev pub head_run : Runs → Term → Symbol → Option Prim → List Run → Assigned → ℕ → Outcome Value
head_run c t f (Some p) ms e n = cond (is_choice p) (chosen ms e n) (after (in_order ms e n) (λ vs k. settled t vs (prim_value p vs) k))
head_run c t f None ms e n = after (in_order ms e n) (c f)

-- each call spends one unit as it is entered
abbrev pub entered : (ℕ → Outcome Value) → ℕ → Outcome Value
entered k zero = spent
entered k (suc n) = k n

abbrev pub run_step : Runs → Term-F (Term × Run) → Run
run_step c (Term-F.Var x) e n = charged (found_at e x) n
run_step c (Term-F.Quote v) e n = charged v n
run_step c (Term-F.Call f ps) e n = entered (head_run c (Call f (map (λ p. p.0) ps)) f (prim_of f) (map (λ p. p.1) ps) e) n

abbrev pub run : Runs → Term → Run
run c = para-Term Run (run_step c)

-- the body, the formals standing for the arguments, where there are as many
abbrev pub body_run : Runs → Option Function → List Value → ℕ → Outcome Value
body_run c None vs n = spent
body_run c (Some g) vs n = cond (nat_eq (length g.formals) (length vs)) (run c g.body (zip g.formals vs) n) spent

-- calls that may be nested so deep
abbrev pub calls_run : ℕ → Defs → Runs
calls_run zero D f vs n = spent
calls_run (suc d) D f vs n = body_run (calls_run d D) (D f) vs n

-- what a term gives with so many units: each call spends one, so calls are nested no deeper than that
abbrev pub metered : Defs → Term → Assigned → ℕ → Outcome Value
metered D t e n = run (calls_run n D) t e n
