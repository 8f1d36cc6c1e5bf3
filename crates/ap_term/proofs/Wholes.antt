-- The texts of symbols and of values that are no conses stand alone: their end is found, they open with
-- neither a quote mark nor a parenthesis, and none is a dot.
use Rattle.std.proofs.Common.{◌≡◌, ℕ, ◌<◌, ℤ, pos, negsuc, ◌^◌, decimal, codes, Bool, true, false, ◌==◌, ◌||◌, ◌&&◌, not, List, [], ◌∷◌, ◌++◌, if◌then◌else◌, refl, arith}
use Rattle.std.proofs.lemmas.Bool.Decides.{nat_tests}
use Rattle.std.specs.Fmt.{signed_decimal}
use lib.Signed.{mag}
use Rattle.ap_value.proofs.Equals.{both}
use Rattle.ap_value.specs.declared.symbol.Symbol.{Symbol}
use Rattle.ap_term.specs.Atoms.{is_plain, ends_atom, all_plain, is_symbol_text, begins_with_digit, begins_with, is_number, is_empty, reads_back}
use Rattle.ap_term.specs.Printed.{quoted, symbol_text, colon_text, character_text}
use Rattle.ap_term.specs.Compared.{stands_alone, IsWhole}
use Rattle.ap_term.proofs.Compares.{plain_other, symbol_atom, character_atom, string_atom, integer_atom, decimal_starts}

none_of : (a b d : Bool) → a ≡ false → b ≡ false → d ≡ false → not (a || b || d) ≡ true
none_of a b d e f g = rw (e, f, g) refl

first_false : (a b d : Bool) → not (a || b || d) ≡ true → a ≡ false
first_false false b d h = refl
first_false true b d h = cc

and_true-false : (a : Bool) → (a && true) ≡ false → a ≡ false
and_true-false true h = h
and_true-false false h = refl

and_false : (a : Bool) → (a && false) ≡ false
and_false true = refl
and_false false = refl

openings : (is_plain 39 ≡ false) × (is_plain 40 ≡ false)
unfolding is_plain ends_atom
openings = (refl, refl)

no_dots : (c : ℕ) (cs : List ℕ) → is_symbol_text (c ∷ cs) ≡ true → (c == 46 && is_empty cs) ≡ false
no_dots c [] h = first_false (c == 46 && true) (begins_with 35 (c ∷ [])) (is_number (c ∷ [])) h
no_dots c (d ∷ cs) h = and_false (c == 46)

plain_alone : (name : List ℕ) → all_plain name ≡ true → is_symbol_text name ≡ true → stands_alone name ≡ true
plain_alone [] h k = absurd (cc)
plain_alone (c ∷ cs) h k =
    let plain = (both (is_plain c) (all_plain cs) h).0 in
    none_of (c == 39) (c == 40) (c == 46 && is_empty cs) (plain_other 39 c openings.0 plain) (plain_other 40 c openings.1 plain) (no_dots c cs k)

symbol_alone : (s : Symbol) → stands_alone (symbol_text s) ≡ true
unfolding symbol_text colon_text reads_back
symbol_alone s = by s.keyword s.name (all_plain s.name) (is_symbol_text s.name) refl refl
  where
    text : Bool → List ℕ → Bool → Bool → List ℕ
    text keyword name plain symbolic = (if keyword then codes ":" else []) ++ (if plain && (keyword || symbolic) then name else quoted 124 name)

    by : (keyword : Bool) (name : List ℕ) (plain symbolic : Bool) → all_plain name ≡ plain → is_symbol_text name ≡ symbolic → stands_alone (text keyword name plain symbolic) ≡ true
    by true name true symbolic h k = refl
    by true name false symbolic h k = refl
    by false name true true h k = plain_alone name h k
    by false name true false h k = refl
    by false name false symbolic h k = refl

pub symbol_whole : (s : Symbol) → IsWhole (symbol_text s)
symbol_whole s = record { atom = symbol_atom s; alone = symbol_alone s }

pub string_whole : (cs : List ℕ) → IsWhole (quoted 34 cs)
string_whole cs = record { atom = string_atom cs; alone = refl }

character_alone : (c : ℕ) → stands_alone (character_text c) ≡ true
unfolding character_text
character_alone c = refl

pub character_whole : (c : ℕ) → IsWhole (character_text c)
character_whole c = record { atom = character_atom c; alone = character_alone c }

digits_alone : (ds : List ℕ) → begins_with_digit ds ≡ true → stands_alone ds ≡ true
digits_alone [] h = absurd (cc)
digits_alone (c ∷ cs) h = by c (is_empty cs) h
  where
    by : (c : ℕ) (b : Bool) → begins_with_digit (c ∷ []) ≡ true → not (c == 39 || c == 40 || (c == 46 && b)) ≡ true
    by c b k = grind (arith, nat_tests)

pub integer_whole : (z : ℤ) → mag z < 2 ^ 127 → IsWhole (signed_decimal z)
integer_whole (pos n) h =
    let small : n < 10 ^ 64 = omega arith in
    record { atom = integer_atom (pos n) h; alone = digits_alone (decimal n) (decimal_starts n small) }
integer_whole (negsuc n) h = record { atom = integer_atom (negsuc n) h; alone = refl }
