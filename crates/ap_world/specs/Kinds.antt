-- The ten basic types, and masks as sets of them.
use Rattle.std.specs.Prelude.{ℕ, zero, suc, Bool, cond, not, nat_eq, ℤ, pos, negsuc, List, [], ◌∷◌}
use Rattle.std.specs.Int.Bits.{bit_and, bit_or, bit_xor}
use Rattle.ap_value.specs.Values.{V, int, chr, str, sym, cons, value_eq}
use Rattle.ap_world.specs.Primitives.{nil, t}
use Rattle.ap_world.specs.Types.{is_true_list, zero_bit, positive_bit, negative_bit, nil_bit, t_bit, symbol_bit, proper_bit, improper_bit, string_bit, character_bit, all_types}
pub use Rattle.ap_world.specs.declared.kinds.Kind.{Kind}
pub use Rattle.ap_world.specs.declared.kinds.Kind.TheVariants.{Zero, Positive, Negative, Nil, True, OtherSymbol, Proper, Improper, Text, Character}

abbrev pub kinds : List Kind
kinds = Zero ∷ Positive ∷ Negative ∷ Nil ∷ True ∷ OtherSymbol ∷ Proper ∷ Improper ∷ Text ∷ Character ∷ []

-- the bit of a type, and so the mask of it alone
abbrev pub bit : Kind → ℕ
bit Zero = zero_bit
bit Positive = positive_bit
bit Negative = negative_bit
bit Nil = nil_bit
bit True = t_bit
bit OtherSymbol = symbol_bit
bit Proper = proper_bit
bit Improper = improper_bit
bit Text = string_bit
bit Character = character_bit

-- the type of a value
abbrev pub int_kind : ℤ → Kind
int_kind (pos zero) = Zero
int_kind (pos (suc n)) = Positive
int_kind (negsuc n) = Negative

abbrev pub symbol_kind : V → Kind
symbol_kind v = cond (value_eq v nil) Nil (cond (value_eq v t) True OtherSymbol)

abbrev pub cons_kind : V → Kind
cons_kind b = cond (is_true_list b) Proper Improper

abbrev pub kind_of : V → Kind
kind_of (int n) = int_kind n
kind_of (sym k s) = symbol_kind (sym k s)
kind_of (cons a b) = cons_kind b
kind_of (str s) = Text
kind_of (chr c) = Character

-- all ten, and all but those of a mask
abbrev pub all : ℕ
all = all_types.0

abbrev pub without : ℕ → ℕ
without m = bit_xor all m

-- two masks share a type
abbrev pub meets : ℕ → ℕ → Bool
meets m n = not (nat_eq (bit_and m n) 0)

-- a mask where a test holds, else no type
abbrev pub if_so : Bool → ℕ → ℕ
if_so b m = cond b m 0

-- the union, over the types of a mask, of what a row has for each, added to a mask
abbrev pub union_from : (Kind → ℕ) → List Kind → ℕ → ℕ → ℕ
union_from row [] m out = out
union_from row (k ∷ ks) m out = union_from row ks m (bit_or out (if_so (meets m (bit k)) (row k)))

abbrev pub union : (Kind → ℕ) → ℕ → ℕ
union row m = union_from row kinds m 0
