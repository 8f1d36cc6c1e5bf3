-- How a reader takes an atom without escapes: as a number, as dots, or as a symbol. The printer cites
-- it to choose which symbols stand between bars.
use Rattle.std.specs.Prelude.{ℕ, Bool, true, false, ◌==◌, ◌&&◌, ◌||◌, not, List, [], ◌∷◌, if◌then◌else◌}
use Rattle.std.specs.Char.{is_ascii_digit, is_ascii_lowercase}
use Rattle.ap_value.specs.declared.symbol.Symbol.{Symbol}

-- the blanks, bytes 9, 10, 12, 13 and 32, and the bytes ( ) ' " ; ` and , end an atom
unfoldable pub ends_atom : ℕ → Bool
ends_atom c =
    c == 9 || c == 10 || c == 12 || c == 13 || c == 32
    || c == 40 || c == 41 || c == 39 || c == 34 || c == 59 || c == 96 || c == 44

-- a byte that stands for itself within a symbol: it ends no atom, is no bar, backslash or colon, and no
-- letter that is read in upper case
unfoldable pub is_plain : ℕ → Bool
is_plain c = not (ends_atom c || c == 124 || c == 92 || c == 58 || is_ascii_lowercase c)

abbrev pub all_plain : List ℕ → Bool
all_plain [] = true
all_plain (c ∷ cs) = is_plain c && all_plain cs

abbrev pub is_empty : List ℕ → Bool
is_empty [] = true
is_empty (c ∷ cs) = false

abbrev pub begins_with : ℕ → List ℕ → Bool
begins_with b [] = false
begins_with b (c ∷ cs) = c == b

abbrev pub begins_with_digit : List ℕ → Bool
begins_with_digit [] = false
begins_with_digit (c ∷ cs) = is_ascii_digit c

-- what is left after an optional sign
abbrev pub after_sign : List ℕ → List ℕ
after_sign [] = []
after_sign (c ∷ cs) = if (c == 43 || c == 45) then cs else c ∷ cs

-- what is left after the digits at the front
abbrev pub after_digits : List ℕ → List ℕ
after_digits [] = []
after_digits (c ∷ cs) = if is_ascii_digit c then after_digits cs else c ∷ cs

-- one digit or more, and nothing else
abbrev pub is_digits : List ℕ → Bool
is_digits cs = begins_with_digit cs && is_empty (after_digits cs)

-- an exponent: E, an optional sign, digits
abbrev pub is_exponent : List ℕ → Bool
is_exponent [] = false
is_exponent (c ∷ cs) = (c == 69 || c == 101) && is_digits (after_sign cs)

-- what may follow the point after a number's first digits: nothing, digits, or digits and an exponent
abbrev pub ends_fraction : List ℕ → Bool
ends_fraction cs = is_empty cs || (begins_with_digit cs && (is_empty (after_digits cs) || is_exponent (after_digits cs)))

-- what may follow a number's first digits: nothing, `/` and digits, a point, or an exponent
abbrev pub ends_number : List ℕ → Bool
ends_number [] = true
ends_number (c ∷ cs) =
    if c == 47 then is_digits cs else (if c == 46 then ends_fraction cs else is_exponent (c ∷ cs))

-- a point and digits
abbrev pub is_point_digits : List ℕ → Bool
is_point_digits [] = false
is_point_digits (c ∷ cs) = c == 46 && is_digits cs

-- a number after its sign
abbrev pub is_unsigned : List ℕ → Bool
is_unsigned cs = if begins_with_digit cs then ends_number (after_digits cs) else is_point_digits cs

-- an integer, or one of the numbers that aren't in the fragment: a ratio, a decimal, one with an exponent
abbrev pub is_number : List ℕ → Bool
is_number cs = is_unsigned (after_sign cs)

abbrev pub all_dots : List ℕ → Bool
all_dots [] = true
all_dots (c ∷ cs) = c == 46 && all_dots cs

-- bytes that stand for themselves are read as the symbol of package ACL2 with that name: they aren't
-- empty, don't begin with #, and are neither a number nor dots alone
abbrev pub is_symbol_text : List ℕ → Bool
is_symbol_text cs = not (all_dots cs || begins_with 35 cs || is_number cs)

-- a symbol is read back where its name stands without bars: a keyword behind its colon
unfoldable pub reads_back : Symbol → Bool
reads_back s = all_plain s.name && (s.keyword || is_symbol_text s.name)
