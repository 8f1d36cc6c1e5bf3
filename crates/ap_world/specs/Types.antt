-- The ten basic types of a value, as bits of a mask.
use Rattle.std.specs.Prelude.{◌≡◌, ℕ, zero, suc, ◌+◌, Bool, cond, ℤ, pos, negsuc}
use Rattle.std.specs.Int.{bit_at}
use Rattle.ap_value.specs.Values.{V, int, chr, str, sym, cons, value_eq}
use Rattle.ap_world.specs.declared.entry.Mask.{Mask}
use Rattle.ap_world.specs.Primitives.{nil, t}

-- conses down to nil
abbrev pub is_true_list : V → Bool
is_true_list (cons a b) = is_true_list b
is_true_list v = value_eq v nil

-- zero, positive, negative
abbrev pub int_type : ℤ → ℕ
int_type (pos zero) = 0
int_type (pos (suc n)) = 1
int_type (negsuc n) = 2

-- nil, t, another symbol
abbrev pub symbol_type : V → ℕ
symbol_type v = cond (value_eq v nil) 3 (cond (value_eq v t) 4 5)

-- the number of a value's type: zero, positive, negative, nil, t, another symbol, a proper cons, an
-- improper cons, a string, a character
abbrev pub type_of : V → ℕ
type_of (int n) = int_type n
type_of (sym k s) = symbol_type (sym k s)
type_of (cons a b) = cond (is_true_list b) 6 7
type_of (str s) = 8
type_of (chr c) = 9

-- the value's type is in the mask
abbrev pub Has : Mask → V → Type 0
Has m v = bit_at m.0 (type_of v) ≡ 1

-- the bit of each type; the sum of different ones is the mask of them all
abbrev pub zero_bit : ℕ
zero_bit = 1

abbrev pub positive_bit : ℕ
positive_bit = 2

abbrev pub negative_bit : ℕ
negative_bit = 4

abbrev pub nil_bit : ℕ
nil_bit = 8

abbrev pub t_bit : ℕ
t_bit = 16

abbrev pub symbol_bit : ℕ
symbol_bit = 32

abbrev pub proper_bit : ℕ
proper_bit = 64

abbrev pub improper_bit : ℕ
improper_bit = 128

abbrev pub string_bit : ℕ
string_bit = 256

abbrev pub character_bit : ℕ
character_bit = 512

-- t and nil
abbrev pub truths : Mask
truths = record { 0 = nil_bit + t_bit }

-- the integers, and those that aren't negative
abbrev pub integers : Mask
integers = record { 0 = zero_bit + positive_bit + negative_bit }

abbrev pub naturals : Mask
naturals = record { 0 = zero_bit + positive_bit }

-- the true lists
abbrev pub true_lists : Mask
true_lists = record { 0 = nil_bit + proper_bit }

-- all but the negative integers
abbrev pub no_negatives : Mask
no_negatives = record { 0 = zero_bit + positive_bit + nil_bit + t_bit + symbol_bit + proper_bit + improper_bit + string_bit + character_bit }

-- all ten types
abbrev pub all_types : Mask
all_types = record { 0 = zero_bit + positive_bit + negative_bit + nil_bit + t_bit + symbol_bit + proper_bit + improper_bit + string_bit + character_bit }
