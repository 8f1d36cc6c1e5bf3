-- The primitives and their values: ACL2's, on the universe of integers, characters, strings, symbols
-- and conses. Each completion case is here, as that `(car 3)` is `nil` and that a non-integer adds as 0.
use Rattle.std.specs.Prelude.{ℕ, Bool, true, false, cond, ℤ, pos, ◌+ℤ◌, ◌*ℤ◌, neg_ℤ, int_lt, nat_lt, List, [], ◌∷◌, map, Option, Some, None}
use Rattle.ap_list.specs.Lists.{lookup_by}
use Rattle.ap_value.specs.declared.symbol.Symbol.{Symbol}
use Rattle.ap_value.specs.Values.{Byte, byte_of, V, int, chr, str, sym, cons, symbol_eq, value_eq}
pub use Rattle.ap_world.specs.declared.primitive.Primitive.{Primitive as Prim}
pub use Rattle.ap_world.specs.declared.primitive.Primitive.TheVariants.{If, Equal, Consp, Integerp, Symbolp, Stringp, Characterp, Cons, Car, Cdr, Plus, Times, Minus, Less, CharCode, CodeChar, SymbolName, Coerce}
use Rattle.ap_world.specs.Names.{nil_name, t_name, list_name, if_name, equal_name, consp_name, integerp_name, symbolp_name, stringp_name, characterp_name, cons_name, car_name, cdr_name, plus_name, times_name, minus_name, less_name, char_code_name, code_char_name, symbol_name_name, coerce_name}

-- the value of a symbol
abbrev pub symbol_value : Symbol → V
symbol_value s = sym s.keyword (map byte_of s.name)

-- false, and every other value is true
unfoldable pub nil : V
nil = symbol_value nil_name

unfoldable pub t : V
t = symbol_value t_name

-- t or nil
abbrev pub truth : Bool → V
truth true = t
truth false = nil

-- the primitives by their names
unfoldable pub primitives : List (Symbol × Prim)
primitives =
    (if_name, If) ∷ (equal_name, Equal) ∷ (consp_name, Consp) ∷ (integerp_name, Integerp)
    ∷ (symbolp_name, Symbolp) ∷ (stringp_name, Stringp) ∷ (characterp_name, Characterp)
    ∷ (cons_name, Cons) ∷ (car_name, Car) ∷ (cdr_name, Cdr)
    ∷ (plus_name, Plus) ∷ (times_name, Times) ∷ (minus_name, Minus) ∷ (less_name, Less)
    ∷ (char_code_name, CharCode) ∷ (code_char_name, CodeChar)
    ∷ (symbol_name_name, SymbolName) ∷ (coerce_name, Coerce) ∷ []

-- the primitive of a name, if it has one
unfoldable pub prim_of : Symbol → Option Prim
prim_of f = lookup_by symbol_eq primitives f

-- the recognisers
abbrev pub is_cons : V → Bool
is_cons (cons a b) = true
is_cons v = false

abbrev pub is_integer : V → Bool
is_integer (int n) = true
is_integer v = false

abbrev pub is_symbol : V → Bool
is_symbol (sym k s) = true
is_symbol v = false

abbrev pub is_string : V → Bool
is_string (str s) = true
is_string v = false

abbrev pub is_character : V → Bool
is_character (chr c) = true
is_character v = false

-- the parts of a cons; those of another value are nil
abbrev pub car_of : V → V
car_of (cons a b) = a
car_of v = nil

abbrev pub cdr_of : V → V
cdr_of (cons a b) = b
cdr_of v = nil

-- an integer; another value counts as 0
abbrev pub int_of : V → ℤ
int_of (int n) = n
int_of v = pos 0

-- a character's code; that of another value is 0
abbrev pub char_code_of : V → V
char_code_of (chr c) = int (pos c.code)
char_code_of v = int (pos 0)

-- the character of a code from 0 to 255; that of another value has code 0
abbrev pub code_char_of : V → V
code_char_of (int (pos n)) = chr (byte_of (cond (nat_lt n 256) n 0))
code_char_of v = chr (byte_of 0)

-- a symbol's name; that of another value is the empty string
abbrev pub symbol_name_of : V → V
symbol_name_of (sym k s) = str s
symbol_name_of v = str []

-- the list of characters
abbrev pub chars_to : List Byte → V
chars_to [] = nil
chars_to (c ∷ cs) = cons (chr c) (chars_to cs)

-- what a member of a list of characters stands for: itself, or the character of code 0
abbrev pub char_in : V → Byte
char_in (chr c) = c
char_in v = byte_of 0

-- the characters of a list; where it doesn't end in nil, its end is passed over
abbrev pub chars_from : V → List Byte
chars_from (cons a b) = char_in a ∷ chars_from b
chars_from v = []

-- the list of a string's characters; that of another value is nil
abbrev pub to_list : V → V
to_list (str s) = chars_to s
to_list v = nil

-- the list of x's characters where y is the symbol LIST, else the string of the characters of x
abbrev pub coerce_of : V → V → V
coerce_of x y = cond (value_eq y (symbol_value list_name)) (to_list x) (str (chars_from x))

-- the value of a primitive; none where the number of arguments is another
abbrev pub prim : Prim → List V → Option V
prim If (x ∷ y ∷ z ∷ []) = Some (cond (value_eq x nil) z y)
prim Equal (x ∷ y ∷ []) = Some (truth (value_eq x y))
prim Consp (x ∷ []) = Some (truth (is_cons x))
prim Integerp (x ∷ []) = Some (truth (is_integer x))
prim Symbolp (x ∷ []) = Some (truth (is_symbol x))
prim Stringp (x ∷ []) = Some (truth (is_string x))
prim Characterp (x ∷ []) = Some (truth (is_character x))
prim Cons (x ∷ y ∷ []) = Some (cons x y)
prim Car (x ∷ []) = Some (car_of x)
prim Cdr (x ∷ []) = Some (cdr_of x)
prim Plus (x ∷ y ∷ []) = Some (int (int_of x +ℤ int_of y))
prim Times (x ∷ y ∷ []) = Some (int (int_of x *ℤ int_of y))
prim Minus (x ∷ []) = Some (int (neg_ℤ (int_of x)))
prim Less (x ∷ y ∷ []) = Some (truth (int_lt (int_of x) (int_of y)))
prim CharCode (x ∷ []) = Some (char_code_of x)
prim CodeChar (x ∷ []) = Some (code_char_of x)
prim SymbolName (x ∷ []) = Some (symbol_name_of x)
prim Coerce (x ∷ y ∷ []) = Some (coerce_of x y)
prim p vs = None

-- the number of arguments of a primitive
abbrev pub prim_arity : Prim → ℕ
prim_arity If = 3
prim_arity Equal = 2
prim_arity Consp = 1
prim_arity Integerp = 1
prim_arity Symbolp = 1
prim_arity Stringp = 1
prim_arity Characterp = 1
prim_arity Cons = 2
prim_arity Car = 1
prim_arity Cdr = 1
prim_arity Plus = 2
prim_arity Times = 2
prim_arity Minus = 1
prim_arity Less = 2
prim_arity CharCode = 1
prim_arity CodeChar = 1
prim_arity SymbolName = 1
prim_arity Coerce = 2
