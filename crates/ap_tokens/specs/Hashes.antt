-- What begins with `#` and is no comment: characters and numbers of another base.
use Rattle.std.specs.Prelude.{ℕ, ◌+◌, Bool, true, false, ◌&&◌, ◌||◌, ◌==◌, nat_le, if◌then◌else◌, List, [], ◌∷◌, map, take, Option, Some, None, Result, Ok, Err, codes, is_some}
use Rattle.std.specs.Char.{to_ascii_lowercase}
use Rattle.std.specs.Str.{bytes_eq}
use Rattle.ap_tokens.specs.declared.token.Kind.{Kind}
use Rattle.ap_tokens.specs.declared.token.Kind.TheVariants as kinds
use Rattle.ap_tokens.specs.declared.token.FaultKind.{FaultKind}
use Rattle.ap_tokens.specs.declared.token.FaultKind.TheVariants as faults
use Rattle.ap_tokens.specs.declared.hash.Base.{Base}
use Rattle.ap_tokens.specs.declared.hash.Base.TheVariants as base
use Rattle.ap_tokens.specs.declared.hash.Hash.{Hash}
use Rattle.ap_tokens.specs.declared.hash.Hash.TheVariants as hash
use Rattle.ap_tokens.specs.Scans.{run_len}

-- what a `#` begins, by the byte after it
abbrev pub hash_by : Bool → Bool → Bool → Bool → Hash
hash_by true _ _ _ = hash.Character
hash_by false true _ _ = hash.Number base.Sixteen
hash_by false false true _ = hash.Number base.Eight
hash_by false false false true = hash.Number base.Two
hash_by false false false false = hash.Bad

abbrev pub hash_of : List ℕ → Hash
hash_of [] = hash.Bad
hash_of (c ∷ t) = hash_by (c == 92) (c == 120 || c == 88) (c == 111 || c == 79) (c == 98 || c == 66)

-- a digit of a base, letters in either case
unfoldable pub is_digit_of : Base → ℕ → Bool
is_digit_of base.Two c = c == 48 || c == 49
is_digit_of base.Eight c = nat_le 48 c && nat_le c 55
is_digit_of base.Sixteen c = nat_le 48 c && nat_le c 57 || nat_le 65 c && nat_le c 70 || nat_le 97 c && nat_le c 102

-- at least one digit, and digits alone
abbrev pub digits_of : Base → List ℕ → Bool
digits_of b [] = true
digits_of b (c ∷ t) = is_digit_of b c && digits_of b t

abbrev pub some_digits_of : Base → List ℕ → Bool
some_digits_of b [] = false
some_digits_of b (c ∷ t) = digits_of b (c ∷ t)

-- an optional sign, and digits
abbrev pub is_number_of : Base → List ℕ → Bool
is_number_of b [] = false
is_number_of b (c ∷ t) = if c == 43 || c == 45 then some_digits_of b t else digits_of b (c ∷ t)

-- the code of the character that a name of several bytes names, in any case
abbrev pub same_letters : List ℕ → List ℕ → Bool
same_letters s t = bytes_eq (map to_ascii_lowercase s) (map to_ascii_lowercase t)

unfoldable pub char_name : List ℕ → Option ℕ
char_name t =
    if same_letters t (codes "space") then Some 32 else
    (if same_letters t (codes "newline") then Some 10 else
    (if same_letters t (codes "tab") then Some 9 else
    (if same_letters t (codes "page") then Some 12 else
    (if same_letters t (codes "rubout") then Some 127 else None))))

-- a token of so many bytes, where a test is passed
abbrev pub where_true : Bool → Kind → ℕ → FaultKind → Result (Kind × ℕ) FaultKind
where_true true k n f = Ok (k, n)
where_true false k n f = Err f

-- what follows `#\`: one byte, then bytes up to a blank or a byte that ends an atom, and one byte or a name in all
abbrev pub character_of : List ℕ → Result (Kind × ℕ) FaultKind
character_of [] = Err faults.BadHash
character_of (c ∷ t) =
    where_true (run_len t == 0 || is_some (char_name (take (1 + run_len t) (c ∷ t)))) kinds.Character (3 + run_len t) faults.BadCharName

-- what follows `#x` and the like, up to a blank or a byte that ends an atom
abbrev pub based_of : Base → List ℕ → Result (Kind × ℕ) FaultKind
based_of b t = where_true (is_number_of b (take (run_len t) t)) kinds.Based (2 + run_len t) faults.BadHash

-- what follows a `#` that begins no comment
abbrev pub hashed_by : Hash → List ℕ → Result (Kind × ℕ) FaultKind
hashed_by hash.Character t = character_of t
hashed_by (hash.Number b) t = based_of b t
hashed_by hash.Bad t = Err faults.BadHash

unfoldable pub hashed_of : List ℕ → Result (Kind × ℕ) FaultKind
hashed_of [] = Err faults.BadHash
hashed_of (c ∷ t) = hashed_by (hash_of (c ∷ t)) t
