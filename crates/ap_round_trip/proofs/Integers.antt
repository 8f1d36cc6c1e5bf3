-- An integer's decimal digits are read as the integer.
use Rattle.std.proofs.Common.{◌≡◌, ℕ, ◌+◌, ◌*◌, ◌/◌, ◌%◌, ◌^◌, ◌<◌, ◌≤◌, true, false, List, [], ◌∷◌, ◌++◌, length, Some, None, Ok, ℤ, pos, negsuc, suc, refl, ap, ◌∙◌, arith, length-append}
use Rattle.std.specs.Prelude.{if◌then◌else◌, nat_lt}
use Rattle.std.specs.Fmt.{decimal, signed_decimal}
use Rattle.std.proofs.lemmas.Fmt.{decimal_by_steps_wide}
use Rattle.std.proofs.lemmas.Bool.Decides.{nat_tests}
use Rattle.std.proofs.lemmas.Bool.{ne_eqb, ltb-true, lt-ltb}
use Rattle.ap_list.specs.Lists.{Each}
use Rattle.ap_tokens.specs.declared.token.Kind.TheVariants as kinds
use Rattle.ap_tokens.specs.Bytes.{is_blank, ends_atom}
use Rattle.ap_reader.specs.declared.number.Shape.TheVariants as shapes
use Rattle.ap_reader.specs.declared.form.Body.TheVariants as body
use Rattle.ap_reader.specs.declared.leaf.Leaf.TheVariants as leaves
use Rattle.ap_reader.specs.Leaves.{fitted, atom_of, leaf_of}
use Rattle.ap_reader.specs.Numbers.{is_digit, past_digits, is_digits, past_sign, is_number, is_dots, shape_by, shape_of, worth, value_after, signed, integer_of}
use Rattle.ap_value.specs.Fits.{fits}
use Rattle.ap_round_trip.proofs.Tokens.{IsLeaf}
use Rattle.ap_round_trip.proofs.Bytes.{Inner, starts, atom_spelled}

pub record IsDigit (c : ℕ) : Type 0 where
  pub low : 48 ≤ c
  pub high : c ≤ 57

pub digit_inner : (c : ℕ) → IsDigit c → Inner c
unfolding ends_atom is_blank
digit_inner c h = record { taken = λ e. omega (arith, h.low, h.high); bar = λ e. omega (arith, h.low, h.high); ends = grind (arith, nat_tests) }

digit_is : (c : ℕ) → IsDigit c → is_digit c ≡ true
digit_is c h = grind (arith, nat_tests)

each-append : {A : Type 0} (P : A → Type 0) (xs ys : List A) → Each P xs → Each P ys → Each P (xs ++ ys)
each-append P [] ys h k = k
each-append P (x ∷ xs) ys h k = (h.0, each-append P xs ys h.1 k)

value-append : (n : ℕ) (ds : List ℕ) (d : ℕ) → value_after 10 n (ds ++ d ∷ []) ≡ value_after 10 n ds * 10 + worth d
value-append n [] d = refl
value-append n (c ∷ ds) d = value-append (n * 10 + worth c) ds d

digit_worth : (k : ℕ) → k < 10 → worth (48 + k) ≡ k
digit_worth k h = grind (arith, nat_tests)

-- what the digits of a number are
pub record Digits (n : ℕ) (ds : List ℕ) : Type 0 where
  pub each : Each IsDigit ds
  pub some : 0 < length ds
  pub value : value_after 10 0 ds ≡ n

pub digits : (n : ℕ) → n < 10 ^ 64 → Digits n (decimal n)
digits = decimal_by_steps_wide Digits one more
  where
    one : (n : ℕ) → n < 10 → Digits n ((48 + n) ∷ [])
    one n h = record { each = (record { low = omega arith; high = omega arith }, tt); some = omega arith; value = omega (arith, digit_worth n h) }

    more : (n : ℕ) (ds : List ℕ) → 10 ≤ n → Digits (n / 10) ds → Digits n (ds ++ ((48 + n % 10) ∷ []))
    more n ds h d = record {
      each = each-append IsDigit ds ((48 + n % 10) ∷ []) d.each (record { low = omega arith; high = omega arith }, tt);
      some = omega (arith, d.some, length-append ds ((48 + n % 10) ∷ []));
      value = value-append 0 ds (48 + n % 10) ∙ omega (arith, d.value, digit_worth (n % 10) (omega arith));
    }

-- digits are all that stands before nothing
all_past : (ds : List ℕ) → Each IsDigit ds → past_digits ds ≡ []
all_past [] h = refl
all_past (c ∷ ds) h = rw (digit_is c h.0) (all_past ds h.1)

are_digits : (ds : List ℕ) → Each IsDigit ds → 0 < length ds → is_digits ds ≡ true
are_digits [] h k = absurd (omega arith)
are_digits (c ∷ ds) h k = rw (digit_is c h.0, all_past ds h.1) refl

each-inner : (ds : List ℕ) → Each IsDigit ds → Each Inner ds
each-inner [] h = tt
each-inner (c ∷ ds) h = (digit_inner c h.0, each-inner ds h.1)

no_sign : (c : ℕ) (ds : List ℕ) → IsDigit c → past_sign (c ∷ ds) ≡ c ∷ ds
no_sign c ds h = rw (ne_eqb c 43 (λ e. omega (arith, h.low)), ne_eqb c 45 (λ e. omega (arith, h.low))) refl

shape_integer : (t : List ℕ) → is_digits (past_sign t) ≡ true → shape_of t ≡ shapes.Integer
shape_integer t e = ap (λ b. shape_by b (is_number (past_sign t)) (is_dots t)) e

positive : (n : ℕ) → nat_lt n (2 ^ 127) ≡ true → signed false n ≡ Some (pos n)
positive n e = ap (λ b. if b then Some (pos n) else None) e

negative : (n : ℕ) → nat_lt n (2 ^ 127) ≡ true → signed true (suc n) ≡ Some (negsuc n)
negative n e = ap (λ b. if b then Some (negsuc n) else None) (lt-ltb n (2 ^ 127) (ltb-true n (2 ^ 127) e))

atom_integer : (t : List ℕ) (n : ℤ) → is_digits (past_sign t) ≡ true → integer_of 10 t ≡ Some n → leaf_of leaves.Atom t ≡ Ok (body.Int n)
unfolding leaf_of
atom_integer t n e i = ap (λ s. atom_of s t) (shape_integer t e) ∙ ap fitted i

pos_leaf : (n : ℕ) (ds : List ℕ) → nat_lt n (2 ^ 127) ≡ true → Digits n ds → IsLeaf ds (body.Int (pos n))
unfolding integer_of
pos_leaf n [] small d = absurd (omega (arith, d.some))
pos_leaf n (c ∷ ds) small d =
    let s = no_sign c ds d.each.0 in
    record {
      kind = kinds.Atom;
      leaf = leaves.Atom;
      head = refl;
      body = atom_integer (c ∷ ds) (pos n) (ap is_digits s ∙ are_digits (c ∷ ds) d.each d.some)
          (ap (λ b. signed b (value_after 10 0 (past_sign (c ∷ ds)))) (ne_eqb c 45 (λ e. omega (arith, d.each.0.low)))
          ∙ ap (λ t. signed false (value_after 10 0 t)) s ∙ ap (signed false) d.value ∙ positive n small);
      some = d.some;
      here = λ u. starts c (ds ++ u) (digit_inner c d.each.0).ends (ne_eqb c 35 (λ e. omega (arith, d.each.0.low)));
      spelled = λ u h. atom_spelled c ds u (each-inner (c ∷ ds) d.each) (ne_eqb c 35 (λ e. omega (arith, d.each.0.low))) (λ e. omega (arith, d.each.0.low)) h;
    }

minus_inner : Inner 45
unfolding ends_atom is_blank
minus_inner = record { taken = λ e. omega arith; bar = λ e. omega arith; ends = refl }

neg_leaf : (n : ℕ) (ds : List ℕ) → nat_lt n (2 ^ 127) ≡ true → Digits (suc n) ds → IsLeaf (45 ∷ ds) (body.Int (negsuc n))
unfolding integer_of
neg_leaf n ds small d = record {
  kind = kinds.Atom;
  leaf = leaves.Atom;
  head = refl;
  body = atom_integer (45 ∷ ds) (negsuc n) (are_digits ds d.each d.some) (ap (signed true) d.value ∙ negative n small);
  some = omega arith;
  here = λ u. starts 45 (ds ++ u) minus_inner.ends refl;
  spelled = λ u h. atom_spelled 45 ds u (minus_inner, each-inner ds d.each) refl (λ e. omega arith) h;
}

pub integer_leaf : (n : ℤ) → fits n ≡ true → IsLeaf (signed_decimal n) (body.Int n)
integer_leaf (pos n) h = pos_leaf n (decimal n) h (digits n (omega (arith, ltb-true n (2 ^ 127) h)))
integer_leaf (negsuc n) h = neg_leaf n (decimal (suc n)) h (digits (suc n) (omega (arith, ltb-true n (2 ^ 127) h)))
