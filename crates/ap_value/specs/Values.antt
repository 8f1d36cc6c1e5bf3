-- The values of the universe, over which assignments range. A byte is bounded here by its type, so
-- that no character past 255 is a value; the program's `Value` is what a book can write.
use Rattle.std.specs.Prelude.{ℕ, ◌<◌, ◌%◌, Bool, true, false, ◌&&◌, ℤ, pos, negsuc, List, [], ◌∷◌, map, nat_eq}
use Rattle.std.proofs.Common.{arith}
use Rattle.std.proofs.Math.Bool.{beq}
use Rattle.std.specs.Cmp.Lexicographic.{pointwise}
use Rattle.ap_value.specs.declared.symbol.Symbol.{Symbol}
use Rattle.ap_value.specs.declared.value.Value.{Value, fold-Value}
use Rattle.ap_value.specs.declared.value.Value.TheOpen.{Value-F}

-- what is left of a division by 256 is a byte
pub byte_small : (n : ℕ) → n % 256 < 256
byte_small n = omega arith

-- the same truth, and the same bytes
abbrev pub bool_eq : Bool → Bool → Bool
bool_eq = beq

abbrev pub bytes_eq : List ℕ → List ℕ → Bool
bytes_eq = pointwise nat_eq

-- a character's code
pub record Byte : Type 0 where
  pub code : ℕ
  pub small : code < 256

-- an integer, a character, a string, a symbol by its package (whether KEYWORD) and its name, or a cons
pub data V : Type 0 where
  int : ℤ → V
  chr : Byte → V
  str : List Byte → V
  sym : Bool → List Byte → V
  cons : V → V → V

-- the byte of a number
abbrev pub byte_of : ℕ → Byte
byte_of n = record { code = n % 256; small = byte_small n }

-- the meaning of one level of a value, its parts taken as meant
abbrev pub val_step : Value-F V → V
val_step (Value-F.Int n) = int n
val_step (Value-F.Chr c) = chr (byte_of c)
val_step (Value-F.Str s) = str (map byte_of s)
val_step (Value-F.Sym s) = sym s.keyword (map byte_of s.name)
val_step (Value-F.Cons a b) = cons a b

-- what a value that a program holds means
abbrev pub val_of : Value → V
val_of = fold-Value V val_step

-- two symbols are one: they are of one package and their names have the same bytes
abbrev pub symbol_eq : Symbol → Symbol → Bool
symbol_eq a b = bool_eq a.keyword b.keyword && bytes_eq a.name b.name

abbrev pub int_eq : ℤ → ℤ → Bool
int_eq (pos m) (pos n) = nat_eq m n
int_eq (negsuc m) (negsuc n) = nat_eq m n
int_eq _ _ = false

-- the symbol of package ACL2 with this name
abbrev pub acl2 : List ℕ → Symbol
acl2 name = record { keyword = false; name = name }

-- two bytes, and two strings of bytes, are one
abbrev pub string_eq : List Byte → List Byte → Bool
string_eq [] [] = true
string_eq (x ∷ xs) (y ∷ ys) = nat_eq x.code y.code && string_eq xs ys
string_eq _ _ = false

-- two values are one: ACL2's `equal`
unfoldable pub value_eq : V → V → Bool
value_eq (int m) (int n) = int_eq m n
value_eq (chr c) (chr d) = nat_eq c.code d.code
value_eq (str s) (str t) = string_eq s t
value_eq (sym j s) (sym k t) = bool_eq j k && string_eq s t
value_eq (cons a b) (cons c d) = value_eq a c && value_eq b d
value_eq _ _ = false
