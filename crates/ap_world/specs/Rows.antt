-- What a call of a primitive, of a recogniser or of `not` can be, by the types of its arguments: the table
-- of types. A call has the union of these over one type of each argument's mask.
use Rattle.std.specs.Prelude.{ℕ, ◌+◌, Bool, cond, List, [], ◌∷◌, Option, Some}
use Rattle.std.specs.Int.Bits.{bit_or}
use Rattle.ap_list.specs.Lists.{lookup_by}
use Rattle.ap_value.specs.declared.symbol.Symbol.{Symbol}
use Rattle.ap_value.specs.Values.{val_of, symbol_eq, value_eq}
use Rattle.ap_term.specs.declared.term.Term.{Term}
use Rattle.ap_world.specs.Names.{not_name, consp_name, integerp_name, symbolp_name, stringp_name, characterp_name, true_listp_name, list_name}
use Rattle.ap_world.specs.declared.primitive.Primitive.{Primitive as Prim}
use Rattle.ap_world.specs.declared.primitive.Primitive.TheVariants.{Equal, Cons, Car, Cdr, Plus, Times, Minus, Less, CharCode, CodeChar, SymbolName}
use Rattle.ap_world.specs.Primitives.{symbol_value}
use Rattle.ap_world.specs.Types.{zero_bit, positive_bit, negative_bit, nil_bit, t_bit, symbol_bit, proper_bit, improper_bit, string_bit, character_bit}
use Rattle.ap_world.specs.Shapes.{Shape, constant, shape_of}
use Rattle.ap_world.specs.Kinds.{Kind, Positive, Negative, Nil, Proper, Improper, Character, bit, all, without, meets, if_so, union}
use Rattle.ap_world.specs.declared.kinds.Sign.{Sign}
use Rattle.ap_world.specs.declared.kinds.Sign.TheVariants as sign

-- the recognisers, each with the types that it is true of
unfoldable pub recognisers : List (Symbol × ℕ)
recognisers =
    (consp_name, proper_bit + improper_bit) ∷ (integerp_name, zero_bit + positive_bit + negative_bit)
    ∷ (symbolp_name, nil_bit + t_bit + symbol_bit) ∷ (stringp_name, string_bit)
    ∷ (characterp_name, character_bit) ∷ (true_listp_name, nil_bit + proper_bit) ∷ []

unfoldable pub recognised : Symbol → Option ℕ
recognised f = lookup_by symbol_eq recognisers f

-- the same with `not`, which is true of nil
abbrev pub tested : Symbol → Option ℕ
tested f = cond (symbol_eq f not_name) (Some nil_bit) (recognised f)

-- t where the argument has a type that is tested for, nil where it has another
abbrev pub test_types : ℕ → ℕ → ℕ
test_types r m = bit_or (if_so (meets m r) t_bit) (if_so (meets m (without r)) nil_bit)

-- a type's sign as a number: one that isn't an integer's counts as zero
abbrev pub sign_of : Kind → Sign
sign_of Positive = sign.Positive
sign_of Negative = sign.Negative
sign_of k = sign.Zero

abbrev pub sign_bit : Sign → ℕ
sign_bit sign.Zero = zero_bit
sign_bit sign.Positive = positive_bit
sign_bit sign.Negative = negative_bit

-- (binary-+ x y)
abbrev pub plus_row : Sign → Sign → ℕ
plus_row sign.Zero s = sign_bit s
plus_row s sign.Zero = sign_bit s
plus_row sign.Positive sign.Positive = positive_bit
plus_row sign.Negative sign.Negative = negative_bit
plus_row r s = zero_bit + positive_bit + negative_bit

-- (binary-* x y)
abbrev pub times_row : Sign → Sign → ℕ
times_row sign.Zero s = zero_bit
times_row s sign.Zero = zero_bit
times_row sign.Positive s = sign_bit s
times_row s sign.Positive = sign_bit s
times_row sign.Negative sign.Negative = positive_bit

-- (unary-- x)
abbrev pub minus_row : Sign → ℕ
minus_row sign.Zero = zero_bit
minus_row sign.Positive = negative_bit
minus_row sign.Negative = positive_bit

-- (< x y)
abbrev pub less_row : Sign → Sign → ℕ
less_row sign.Negative sign.Negative = nil_bit + t_bit
less_row sign.Negative s = t_bit
less_row sign.Zero sign.Positive = t_bit
less_row sign.Zero s = nil_bit
less_row sign.Positive sign.Positive = nil_bit + t_bit
less_row sign.Positive s = nil_bit

-- the types that have one value alone
abbrev pub is_single : Kind → Bool
is_single k = meets (bit k) (zero_bit + nil_bit + t_bit)

-- (equal x y)
abbrev pub equal_row : Kind → Kind → ℕ
equal_row j k = cond (meets (bit j) (bit k)) (cond (is_single j) t_bit (nil_bit + t_bit)) nil_bit

-- (cons x y), by the type of y
abbrev pub cons_row : Kind → ℕ
cons_row Nil = proper_bit
cons_row Proper = proper_bit
cons_row k = improper_bit

-- (car x), (cdr x)
abbrev pub car_row : Kind → ℕ
car_row Proper = all
car_row Improper = all
car_row k = nil_bit

abbrev pub cdr_row : Kind → ℕ
cdr_row Proper = nil_bit + proper_bit
cdr_row Improper = without (nil_bit + proper_bit)
cdr_row k = nil_bit

-- (char-code x)
abbrev pub char_code_row : Kind → ℕ
char_code_row Character = zero_bit + positive_bit
char_code_row k = zero_bit

-- the primitives of one argument and of two
abbrev pub row_one : Prim → Kind → ℕ
row_one Car k = car_row k
row_one Cdr k = cdr_row k
row_one Minus k = minus_row (sign_of k)
row_one CharCode k = char_code_row k
row_one CodeChar k = character_bit
row_one SymbolName k = string_bit
row_one p k = all

abbrev pub row_two : Prim → Kind → Kind → ℕ
row_two Equal j k = equal_row j k
row_two Less j k = less_row (sign_of j) (sign_of k)
row_two Plus j k = plus_row (sign_of j) (sign_of k)
row_two Times j k = times_row (sign_of j) (sign_of k)
row_two Cons j k = cons_row k
row_two p j k = all

abbrev pub over_one : Prim → ℕ → ℕ
over_one p m = union (row_one p) m

abbrev pub over_two : Prim → ℕ → ℕ → ℕ
over_two p m n = union (λ j. union (row_two p j) n) m

-- (coerce x y), by y: a list where it is the constant LIST, a string where it is another
abbrev pub coerce_by : Shape Term → ℕ
coerce_by (constant v) = cond (value_eq (val_of v) (symbol_value list_name)) (nil_bit + proper_bit) string_bit
coerce_by y = nil_bit + proper_bit + string_bit

abbrev pub coerce_types : List Term → ℕ
coerce_types (a ∷ b ∷ []) = coerce_by (shape_of b)
coerce_types ts = all
