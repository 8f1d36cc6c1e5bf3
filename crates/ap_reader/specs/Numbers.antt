-- Numbers: which texts are numbers, and what an integer is worth.
use Rattle.std.specs.Prelude.{ℕ, ◌+◌, ◌-◌, ◌*◌, ◌^◌, Bool, true, false, ◌&&◌, ◌||◌, ◌==◌, nat_le, nat_lt, if◌then◌else◌, List, [], ◌∷◌, Option, Some, None, ℤ, pos, neg_ℤ}
use Rattle.ap_reader.specs.declared.number.Shape.{Shape}
use Rattle.ap_reader.specs.declared.number.Shape.TheVariants as shapes

-- 0 to 9
abbrev pub is_digit : ℕ → Bool
is_digit c = nat_le 48 c && nat_le c 57

-- the text after the digits that it begins with
abbrev pub past_digits : List ℕ → List ℕ
past_digits [] = []
past_digits (c ∷ t) = if is_digit c then past_digits t else c ∷ t

-- the text begins with a digit
abbrev pub has_digit : List ℕ → Bool
has_digit [] = false
has_digit (c ∷ t) = is_digit c

-- nothing is left
abbrev pub is_over : List ℕ → Bool
is_over [] = true
is_over (c ∷ t) = false

-- one digit or more, and nothing else
abbrev pub is_digits : List ℕ → Bool
is_digits t = has_digit t && is_over (past_digits t)

-- the text after a sign, if it begins with one
abbrev pub past_sign : List ℕ → List ℕ
past_sign [] = []
past_sign (c ∷ t) = if c == 43 || c == 45 then t else c ∷ t

-- a slash and digits
abbrev pub is_below : List ℕ → Bool
is_below [] = false
is_below (c ∷ t) = c == 47 && is_digits t

-- digits, a slash, digits
abbrev pub is_ratio : List ℕ → Bool
is_ratio t = has_digit t && is_below (past_digits t)

-- a point, and perhaps digits, of which there is one here or was one before
abbrev pub is_pointed : Bool → List ℕ → Bool
is_pointed before [] = false
is_pointed before (c ∷ t) = c == 46 && (before || has_digit t) && is_over (past_digits t)

-- digits with a point among or beside them
abbrev pub is_decimal : List ℕ → Bool
is_decimal t = is_pointed (has_digit t) (past_digits t)

-- an exponent: its letter, perhaps a sign, digits
abbrev pub is_exponent : List ℕ → Bool
is_exponent [] = false
is_exponent (c ∷ t) = (c == 101 || c == 69) && is_digits (past_sign t)

-- a point, digits and an exponent
abbrev pub is_fraction : List ℕ → Bool
is_fraction [] = false
is_fraction (c ∷ t) = c == 46 && has_digit t && is_exponent (past_digits t)

-- digits, perhaps a point with digits, an exponent
abbrev pub is_scaled : List ℕ → Bool
is_scaled t = has_digit t && (is_exponent (past_digits t) || is_fraction (past_digits t))

-- dots alone
abbrev pub is_dots : List ℕ → Bool
is_dots [] = true
is_dots (c ∷ t) = c == 46 && is_dots t

-- what a text is, by three tests
abbrev pub shape_by : Bool → Bool → Bool → Shape
shape_by true _ _ = shapes.Integer
shape_by false true _ = shapes.Fraction
shape_by false false true = shapes.Dots
shape_by false false false = shapes.Name

-- another number than an integer, without its sign
abbrev pub is_number : List ℕ → Bool
is_number t = is_ratio t || is_decimal t || is_scaled t

-- an integer, another number, several dots, or a symbol's name
abbrev pub shape_of : List ℕ → Shape
shape_of t = shape_by (is_digits (past_sign t)) (is_number (past_sign t)) (is_dots t)

-- a digit's worth: 0 to 9, and letters of either case from 10 on
abbrev pub worth : ℕ → ℕ
worth c = if nat_lt c 65 then c - 48 else (if nat_lt c 97 then c - 55 else c - 87)

-- digits in a base, after others that are worth n
abbrev pub value_after : ℕ → ℕ → List ℕ → ℕ
value_after base n [] = n
value_after base n (c ∷ t) = value_after base (n * base + worth c) t

-- the text begins with a minus sign
abbrev pub is_minus : List ℕ → Bool
is_minus [] = false
is_minus (c ∷ t) = c == 45

-- the integer of 128 bits with this sign and magnitude
abbrev pub signed : Bool → ℕ → Option ℤ
signed true n = if nat_le n (2 ^ 127) then Some (neg_ℤ (pos n)) else None
signed false n = if nat_lt n (2 ^ 127) then Some (pos n) else None

-- an optional sign and digits in a base, where they fit 128 bits
unfoldable pub integer_of : ℕ → List ℕ → Option ℤ
integer_of base t = signed (is_minus t) (value_after base 0 (past_sign t))
