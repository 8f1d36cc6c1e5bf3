-- The text of a symbol, or of a value that is no cons, says which one it is.
use Rattle.std.proofs.Common.{◌≡◌, ℕ, suc, zero, ◌+◌, ◌*◌, ◌-◌, ◌/◌, ◌%◌, ◌^◌, ◌<◌, ◌≤◌, ℤ, pos, negsuc, decimal, codes, Bool, true, false, ◌==◌, ◌||◌, ◌&&◌, not, List, [], ◌∷◌, ◌++◌, if◌then◌else◌, refl, sym, ap, ◌∙◌, arith}
use Rattle.std.specs.Char.{is_ascii_digit}
use Rattle.std.specs.Fmt.{signed_decimal}
use Rattle.std.proofs.lemmas.Fmt.{decimal_by_steps_wide}
use Rattle.std.proofs.lemmas.Bool.{eqb-true, eq-eqb, ne_eqb, ltb-true}
use Rattle.std.proofs.lemmas.Bool.Decides.{nat_tests}
use Rattle.ap_list.specs.Lists.{Each}
use Rattle.ap_list.proofs.Eachs.{each_append}
use Rattle.ap_value.proofs.Equals.{both}
use Rattle.ap_value.specs.declared.symbol.Symbol.{Symbol}
use Rattle.ap_value.specs.declared.value.Value.{Value, Int, Chr, Str, Sym}
use Rattle.ap_value.specs.Fits.{fits}
use Rattle.ap_term.specs.Atoms.{is_plain, all_plain, all_dots, begins_with, begins_with_digit, after_sign, after_digits, ends_number, is_point_digits, is_unsigned, is_number, is_symbol_text, reads_back}
use Rattle.ap_term.specs.Printed.{escaped, quoted, symbol_text, colon_text, character_name, character_text}
use Rattle.ap_term.proofs.Compares.{plain_other, special}

-- what stands before a closing byte, without its backslashes
abbrev unescaped : ℕ → Bool → List ℕ → List ℕ
unescaped close taken [] = []
unescaped close true (c ∷ cs) = c ∷ unescaped close false cs
unescaped close false (c ∷ cs) = if c == 92 then unescaped close true cs else (if c == close then [] else c ∷ unescaped close false cs)

unescaped_is : (close : ℕ) (cs : List ℕ) → (close ≡ 92 → ⊥) → unescaped close false (escaped close cs ++ close ∷ []) ≡ cs
unescaped_is close [] ne =
    ap (λ b. if b then unescaped close true [] else (if close == close then [] else close ∷ [])) (ne_eqb close 92 ne)
    ∙ ap (λ b. if b then [] else close ∷ []) (eq-eqb close close refl)
unescaped_is close (c ∷ cs) ne = by (c == close) (c == 92) refl refl (unescaped_is close cs ne)
  where
    tail : List ℕ
    tail = escaped close cs ++ close ∷ []

    by : (a b : Bool) → (c == close) ≡ a → (c == 92) ≡ b → unescaped close false tail ≡ cs → unescaped close false (escaped close (c ∷ cs) ++ close ∷ []) ≡ c ∷ cs
    by true b h k rest = rw h (ap (λ l. c ∷ l) rest)
    by false true h k rest = rw (h, k) (ap (λ l. c ∷ l) rest)
    by false false h k rest = rw (h, k, k, h) (ap (λ l. c ∷ l) rest)

-- a name, which may stand between bars
abbrev name_in : List ℕ → List ℕ
name_in [] = []
name_in (c ∷ cs) = if c == 124 then unescaped 124 false cs else c ∷ cs

-- the symbol of a text
abbrev pub symbol_in : List ℕ → Symbol
symbol_in [] = record { keyword = false; name = [] }
symbol_in (c ∷ cs) = if c == 58 then record { keyword = true; name = name_in cs } else record { keyword = false; name = name_in (c ∷ cs) }

name_plain : (cs : List ℕ) → all_plain cs ≡ true → name_in cs ≡ cs
name_plain [] h = refl
name_plain (c ∷ cs) h = ap (λ b. if b then unescaped 124 false cs else c ∷ cs) (plain_other 124 c special.1.1 (both (is_plain c) (all_plain cs) h).0)

abbrev of_package : Bool → List ℕ → Symbol
of_package keyword name = record { keyword = keyword; name = name }

home_plain : (cs : List ℕ) → all_plain cs ≡ true → symbol_in cs ≡ of_package false cs
home_plain [] h = refl
home_plain (c ∷ cs) h =
    ap (λ b. if b then of_package true (name_in cs) else of_package false (name_in (c ∷ cs))) (plain_other 58 c special.1.0 (both (is_plain c) (all_plain cs) h).0)
    ∙ ap (of_package false) (name_plain (c ∷ cs) h)

bars_name : (cs : List ℕ) → unescaped 124 false (escaped 124 cs ++ 124 ∷ []) ≡ cs
bars_name cs = unescaped_is 124 cs (λ e. omega arith)

pub symbol_in_text : (s : Symbol) → symbol_in (symbol_text s) ≡ s
unfolding symbol_text colon_text reads_back
symbol_in_text s = by s.keyword s.name (all_plain s.name) (is_symbol_text s.name) refl
  where
    text : Bool → List ℕ → Bool → Bool → List ℕ
    text keyword name plain symbolic = (if keyword then codes ":" else []) ++ (if plain && (keyword || symbolic) then name else quoted 124 name)

    by : (keyword : Bool) (name : List ℕ) (plain symbolic : Bool) → all_plain name ≡ plain → symbol_in (text keyword name plain symbolic) ≡ of_package keyword name
    by true name true symbolic h = ap (of_package true) (name_plain name h)
    by true name false symbolic h = ap (of_package true) (bars_name name)
    by false name true true h = home_plain name h
    by false name true false h = ap (of_package false) (bars_name name)
    by false name false symbolic h = ap (of_package false) (bars_name name)

-- the code of a character by what stands after its backslash
abbrev coded : ℕ → List ℕ → ℕ
coded c [] = c
coded c (d ∷ ds) = if c == 83 then 32 else (if c == 78 then 10 else (if c == 84 then 9 else (if c == 80 then 12 else 127)))

abbrev character_in : List ℕ → ℕ
character_in [] = 0
character_in (b ∷ []) = 0
character_in (b ∷ c ∷ cs) = coded c cs

by_code : (c d : ℕ) (b : Bool) (name other : List ℕ) → (c == d) ≡ b → character_in (92 ∷ name) ≡ d → character_in (92 ∷ other) ≡ c → character_in (92 ∷ (if b then name else other)) ≡ c
by_code c d true name other e h k = h ∙ sym (eqb-true c d e)
by_code c d false name other e h k = k

character_is : (c : ℕ) → character_in (92 ∷ character_name c) ≡ c
unfolding character_name
character_is c =
    by_code c 32 (c == 32) (codes "Space") _ refl refl
    (by_code c 10 (c == 10) (codes "Newline") _ refl refl
    (by_code c 9 (c == 9) (codes "Tab") _ refl refl
    (by_code c 12 (c == 12) (codes "Page") _ refl refl
    (by_code c 127 (c == 127) (codes "Rubout") (c ∷ []) refl refl refl))))

-- the number of digits that stand after others
abbrev worth : ℕ → List ℕ → ℕ
worth n [] = n
worth n (c ∷ cs) = worth (n * 10 + (c - 48)) cs

abbrev AllDigits : List ℕ → Type 0
AllDigits = Each (λ c. is_ascii_digit c ≡ true)

record Digits (n : ℕ) (ds : List ℕ) : Type 0 where
  each : AllDigits ds
  first : begins_with_digit ds ≡ true
  value : worth 0 ds ≡ n

worth-append : (n : ℕ) (ds : List ℕ) (d : ℕ) → worth n (ds ++ d ∷ []) ≡ worth n ds * 10 + (d - 48)
worth-append n [] d = refl
worth-append n (c ∷ ds) d = worth-append (n * 10 + (c - 48)) ds d

digit_is : (k : ℕ) → k < 10 → is_ascii_digit (48 + k) ≡ true
digit_is k h = grind (arith, nat_tests)

first_kept : (ds : List ℕ) (d : ℕ) → begins_with_digit ds ≡ true → begins_with_digit (ds ++ d ∷ []) ≡ true
first_kept [] d h = absurd (cc)
first_kept (c ∷ ds) d h = h

digits : (n : ℕ) → n < 10 ^ 64 → Digits n (decimal n)
digits = decimal_by_steps_wide Digits one more
  where
    one : (n : ℕ) → n < 10 → Digits n ((48 + n) ∷ [])
    one n h = record { each = (digit_is n h, tt); first = digit_is n h; value = omega arith }

    more : (n : ℕ) (ds : List ℕ) → 10 ≤ n → Digits (n / 10) ds → Digits n (ds ++ ((48 + n % 10) ∷ []))
    more n ds h d = record {
      each = each_append (λ c. is_ascii_digit c ≡ true) ds ((48 + n % 10) ∷ []) d.each (digit_is (n % 10) (omega arith), tt);
      first = first_kept ds (48 + n % 10) d.first;
      value = worth-append 0 ds (48 + n % 10) ∙ omega (arith, d.value);
    }

abbrev negative : ℕ → ℤ
negative zero = pos 0
negative (suc n) = negsuc n

-- the integer of a text
abbrev integer_in : List ℕ → ℤ
integer_in [] = pos 0
integer_in (c ∷ cs) = if c == 45 then negative (worth 0 cs) else pos (worth 0 (c ∷ cs))

no_more : (ds : List ℕ) → AllDigits ds → after_digits ds ≡ []
no_more [] h = refl
no_more (c ∷ ds) h = rw h.0 (no_more ds h.1)

-- what tells an integer's text from those of other atoms
record IsInteger (z : ℤ) (t : List ℕ) : Type 0 where
  string : begins_with 34 t ≡ false
  sharp : begins_with 35 t ≡ false
  number : is_number t ≡ true
  value : integer_in t ≡ z

unsigned : (ds : List ℕ) → AllDigits ds → begins_with_digit ds ≡ true → is_unsigned ds ≡ true
unsigned ds h k =
    ap (λ b. if b then ends_number (after_digits ds) else is_point_digits ds) k ∙ ap ends_number (no_more ds h)

other_digit : (c k : ℕ) → k < 48 → is_ascii_digit c ≡ true → (c == k) ≡ false
other_digit c k h e = grind (arith, nat_tests)

positive_text : (n : ℕ) (ds : List ℕ) → Digits n ds → IsInteger (pos n) ds
positive_text n [] d = absurd (let k : false ≡ true = d.first in cc)
positive_text n (c ∷ ds) d =
    let digit = d.each.0 in
    let same : after_sign (c ∷ ds) ≡ c ∷ ds = rw (other_digit c 43 (omega arith) digit, other_digit c 45 (omega arith) digit) refl in
    record {
      string = other_digit c 34 (omega arith) digit;
      sharp = other_digit c 35 (omega arith) digit;
      number = ap is_unsigned same ∙ unsigned (c ∷ ds) d.each d.first;
      value = ap (λ b. if b then negative (worth 0 ds) else pos (worth 0 (c ∷ ds))) (other_digit c 45 (omega arith) digit) ∙ ap pos d.value;
    }

negative_text : (n : ℕ) (ds : List ℕ) → Digits (suc n) ds → IsInteger (negsuc n) (45 ∷ ds)
negative_text n ds d = record {
  string = refl;
  sharp = refl;
  number = unsigned ds d.each d.first;
  value = ap negative d.value;
}

integer_text : (z : ℤ) → fits z ≡ true → IsInteger z (signed_decimal z)
integer_text (pos n) h = let small : n < 2 ^ 127 = ltb-true n (2 ^ 127) h in positive_text n (decimal n) (digits n (omega (arith, small)))
integer_text (negsuc n) h = let small : n < 2 ^ 127 = ltb-true n (2 ^ 127) h in negative_text n (decimal (suc n)) (digits (suc n) (omega (arith, small)))

-- what tells a symbol's text from those of other atoms
record IsSymbolic (t : List ℕ) : Type 0 where
  string : begins_with 34 t ≡ false
  sharp : begins_with 35 t ≡ false
  number : is_number t ≡ false

not_any : (a b c : Bool) → not (a || b || c) ≡ true → (b ≡ false) × (c ≡ false)
not_any false false false h = (refl, refl)
not_any false false true h = cc
not_any false true c h = cc
not_any true b c h = cc

plain_symbolic : (cs : List ℕ) → all_plain cs ≡ true → is_symbol_text cs ≡ true → IsSymbolic cs
plain_symbolic [] h k = record { string = refl; sharp = refl; number = refl }
plain_symbolic (c ∷ cs) h k =
    let p = not_any (all_dots (c ∷ cs)) (begins_with 35 (c ∷ cs)) (is_number (c ∷ cs)) k in
    record { string = plain_other 34 c special.0 (both (is_plain c) (all_plain cs) h).0; sharp = p.0; number = p.1 }

symbolic : (s : Symbol) → IsSymbolic (symbol_text s)
unfolding symbol_text colon_text reads_back
symbolic s = by s.keyword s.name (all_plain s.name) (is_symbol_text s.name) refl refl
  where
    text : Bool → List ℕ → Bool → Bool → List ℕ
    text keyword name plain symbol = (if keyword then codes ":" else []) ++ (if plain && (keyword || symbol) then name else quoted 124 name)

    by : (keyword : Bool) (name : List ℕ) (plain symbol : Bool) → all_plain name ≡ plain → is_symbol_text name ≡ symbol → IsSymbolic (text keyword name plain symbol)
    by true name true symbol h k = record { string = refl; sharp = refl; number = refl }
    by true name false symbol h k = record { string = refl; sharp = refl; number = refl }
    by false name true true h k = plain_symbolic name h k
    by false name true false h k = record { string = refl; sharp = refl; number = refl }
    by false name false symbol h k = record { string = refl; sharp = refl; number = refl }

-- the value of an atom's text
abbrev pub value_in : List ℕ → Value
value_in [] = Sym (symbol_in [])
value_in (c ∷ cs) =
    if c == 34 then Str (unescaped 34 false cs)
    else (if c == 35 then Chr (character_in cs)
    else (if is_number (c ∷ cs) then Int (integer_in (c ∷ cs))
    else Sym (symbol_in (c ∷ cs))))

pub string_in_text : (cs : List ℕ) → value_in (quoted 34 cs) ≡ Str cs
string_in_text cs = ap Str (unescaped_is 34 cs (λ e. omega arith))

pub character_in_text : (c : ℕ) → value_in (character_text c) ≡ Chr c
unfolding character_text
character_in_text c = ap Chr (character_is c)

pub integer_in_text : (z : ℤ) → fits z ≡ true → value_in (signed_decimal z) ≡ Int z
integer_in_text z h = by (signed_decimal z) (integer_text z h)
  where
    by : (t : List ℕ) → IsInteger z t → value_in t ≡ Int z
    by [] i = let k : false ≡ true = i.number in absurd (cc)
    by (c ∷ cs) i = rw (i.string, i.sharp, i.number) (ap Int i.value)

pub name_in_text : (s : Symbol) → value_in (symbol_text s) ≡ Sym s
name_in_text s = by (symbol_text s) (symbolic s) ∙ ap Sym (symbol_in_text s)
  where
    by : (t : List ℕ) → IsSymbolic t → value_in t ≡ Sym (symbol_in t)
    by [] i = refl
    by (c ∷ cs) i = rw (i.string, i.sharp, i.number) refl
