-- A text that the printer takes for a symbol is no number and no dots to the reader.
use Rattle.std.proofs.Common.{◌≡◌, ℕ, ◌==◌, ◌||◌, ◌&&◌, Bool, true, false, not, List, [], ◌∷◌, refl, sym, ap, subst, ◌∙◌}
use Rattle.std.specs.Prelude.{if◌then◌else◌}
use Rattle.ap_tokens.proofs.Sound.{same}
use Rattle.ap_reader.specs.declared.number.Shape.TheVariants as shapes
use Rattle.ap_reader.specs.Numbers.{is_digit, past_digits, has_digit, is_over, is_digits, past_sign, is_below, is_ratio, is_pointed, is_decimal, is_exponent, is_fraction, is_scaled, is_dots, shape_by, is_number, shape_of}
use Rattle.ap_term.specs.Atoms as printed
use Rattle.ap_term.specs.Atoms.{is_empty, begins_with, begins_with_digit, after_sign, after_digits, ends_fraction, ends_number, is_point_digits, is_unsigned, all_dots, is_symbol_text}
use Rattle.ap_round_trip.proofs.Strings.{or_false}

-- the two say the same of digits and signs
pub digit_first : (t : List ℕ) → begins_with_digit t ≡ has_digit t
digit_first [] = refl
digit_first (c ∷ t) = refl

pub digits_past : (t : List ℕ) → after_digits t ≡ past_digits t
digits_past [] = refl
digits_past (c ∷ t) = by_test (is_digit c) (digits_past t)
  where
    by_test : (b : Bool) → after_digits t ≡ past_digits t → (if b then after_digits t else c ∷ t) ≡ (if b then past_digits t else c ∷ t)
    by_test true h = h
    by_test false h = refl

pub sign_past : (t : List ℕ) → after_sign t ≡ past_sign t
sign_past [] = refl
sign_past (c ∷ t) = refl

pub over : (t : List ℕ) → is_empty t ≡ is_over t
over [] = refl
over (c ∷ t) = refl

pub digits_alike : (t : List ℕ) → printed.is_digits t ≡ is_digits t
digits_alike t =
    ap (λ b. b && is_empty (after_digits t)) (digit_first t) ∙ ap (λ x. has_digit t && is_empty x) (digits_past t) ∙ ap (λ b. has_digit t && b) (over (past_digits t))

or_swap : (a b c : Bool) → ((a || b) && c) ≡ ((b || a) && c)
or_swap true true c = refl
or_swap true false c = refl
or_swap false true c = refl
or_swap false false c = refl

pub exponent_alike : (t : List ℕ) → printed.is_exponent t ≡ is_exponent t
exponent_alike [] = refl
exponent_alike (c ∷ t) =
    or_swap (c == 69) (c == 101) (printed.is_digits (after_sign t))
    ∙ ap (λ b. (c == 101 || c == 69) && b) (ap printed.is_digits (sign_past t) ∙ digits_alike (past_sign t))

-- what stands behind a number's first digits makes it no number
record NoEnd (r : List ℕ) : Type 0 where
  more : is_over r ≡ false
  below : is_below r ≡ false
  pointed : is_pointed true r ≡ false
  exponent : is_exponent r ≡ false
  fraction : is_fraction r ≡ false

pub no_digit_past : (c : ℕ) (t : List ℕ) → is_digit c ≡ false → past_digits (c ∷ t) ≡ c ∷ t
no_digit_past c t e = ap (λ b. if b then past_digits t else c ∷ t) e

no_fraction : (cs : List ℕ) → ends_fraction cs ≡ false → NoEnd (46 ∷ cs)
no_fraction cs h =
    let p = or_false (is_empty cs) (begins_with_digit cs && (is_empty (after_digits cs) || printed.is_exponent (after_digits cs))) h in
    by_first cs p.0
    (ap (λ b. b && (is_over (past_digits cs) || is_exponent (past_digits cs))) (sym (digit_first cs))
    ∙ ap (λ b. begins_with_digit cs && b) (ap (λ b. b || is_exponent (past_digits cs)) (sym (over (past_digits cs))) ∙ ap (λ b. is_empty (past_digits cs) || b) (sym (exponent_alike (past_digits cs))))
    ∙ ap (λ x. begins_with_digit cs && (is_empty x || printed.is_exponent x)) (sym (digits_past cs)) ∙ p.1)
  where
    by_digit : (c : ℕ) (t : List ℕ) (b : Bool) → is_digit c ≡ b → (b && (is_over (past_digits (c ∷ t)) || is_exponent (past_digits (c ∷ t)))) ≡ false → NoEnd (46 ∷ c ∷ t)
    by_digit c t true e q =
        let z = or_false (is_over (past_digits (c ∷ t))) (is_exponent (past_digits (c ∷ t))) q in
        record { more = refl; below = refl; pointed = z.0; exponent = refl; fraction = ap (λ b. b && is_exponent (past_digits (c ∷ t))) e ∙ z.1 }
    by_digit c t false e q =
        record { more = refl; below = refl; pointed = ap is_over (no_digit_past c t e); exponent = refl; fraction = ap (λ b. b && is_exponent (past_digits (c ∷ t))) e }

    by_first : (t : List ℕ) → is_empty t ≡ false → (has_digit t && (is_over (past_digits t) || is_exponent (past_digits t))) ≡ false → NoEnd (46 ∷ t)
    by_first [] e q = absurd cc
    by_first (c ∷ t) e q = by_digit c t (is_digit c) refl q

no_end : (r : List ℕ) → ends_number r ≡ false → NoEnd r
no_end [] h = absurd cc
no_end (c ∷ cs) h = by_test (c == 47) (c == 46) refl refl h
  where
    by_test : (a b : Bool) → (c == 47) ≡ a → (c == 46) ≡ b → (if a then printed.is_digits cs else (if b then ends_fraction cs else printed.is_exponent (c ∷ cs))) ≡ false → NoEnd (c ∷ cs)
    by_test true b e f h =
        subst (λ x. NoEnd (x ∷ cs)) (sym (same c 47 e)) (record { more = refl; below = sym (digits_alike cs) ∙ h; pointed = refl; exponent = refl; fraction = refl })
    by_test false true e f h = subst (λ x. NoEnd (x ∷ cs)) (sym (same c 46 f)) (no_fraction cs h)
    by_test false false e f h = record {
      more = refl;
      below = ap (λ b. b && is_digits cs) e;
      pointed = ap (λ b. b && true && is_over (past_digits cs)) f;
      exponent = sym (exponent_alike (c ∷ cs)) ∙ h;
      fraction = ap (λ b. b && has_digit cs && is_exponent (past_digits cs)) f;
    }

abbrev NoNumber : List ℕ → Type 0
NoNumber u = (is_digits u ≡ false) × (is_number u ≡ false)

or_parts : (a b c : Bool) → a ≡ false → b ≡ false → c ≡ false → (a || b || c) ≡ false
or_parts true b c p q r = absurd cc
or_parts false true c p q r = absurd cc
or_parts false false c p q r = r

digit_number : (u : List ℕ) → has_digit u ≡ true → NoEnd (past_digits u) → NoNumber u
digit_number u d h = (
  ap (λ b. b && is_over (past_digits u)) d ∙ h.more,
  or_parts (is_ratio u) (is_decimal u) (is_scaled u)
      (ap (λ b. b && is_below (past_digits u)) d ∙ h.below)
      (ap (λ b. is_pointed b (past_digits u)) d ∙ h.pointed)
      (ap (λ b. b && (is_exponent (past_digits u) || is_fraction (past_digits u))) d ∙ ap (λ b. b || is_fraction (past_digits u)) h.exponent ∙ h.fraction),
)

three : (a h o : Bool) → (a && (h && o)) ≡ false → (a && (false || h) && o) ≡ false
three true true o e = e
three true false o e = refl
three false h o e = refl

point_number : (c : ℕ) (cs : List ℕ) → is_digit c ≡ false → is_point_digits (c ∷ cs) ≡ false → NoNumber (c ∷ cs)
point_number c cs d h = (
  ap (λ b. b && is_over (past_digits (c ∷ cs))) d,
  or_parts (is_ratio (c ∷ cs)) (is_decimal (c ∷ cs)) (is_scaled (c ∷ cs))
      (ap (λ b. b && is_below (past_digits (c ∷ cs))) d)
      (ap (λ b. is_pointed b (past_digits (c ∷ cs))) d ∙ ap (is_pointed false) (no_digit_past c cs d)
      ∙ three (c == 46) (has_digit cs) (is_over (past_digits cs)) (ap (λ b. c == 46 && b) (sym (digits_alike cs)) ∙ h))
      (ap (λ b. b && (is_exponent (past_digits (c ∷ cs)) || is_fraction (past_digits (c ∷ cs)))) d),
)

no_number : (u : List ℕ) → is_unsigned u ≡ false → NoNumber u
no_number [] h = (refl, refl)
no_number (c ∷ cs) h = by_digit (is_digit c) refl h
  where
    by_digit : (b : Bool) → is_digit c ≡ b → (if b then ends_number (after_digits (c ∷ cs)) else is_point_digits (c ∷ cs)) ≡ false → NoNumber (c ∷ cs)
    by_digit true e h = digit_number (c ∷ cs) e (no_end (past_digits (c ∷ cs)) (ap ends_number (sym (digits_past (c ∷ cs))) ∙ h))
    by_digit false e h = point_number c cs e h

pub dots_alike : (t : List ℕ) → is_dots t ≡ all_dots t
dots_alike [] = refl
dots_alike (c ∷ t) = ap (λ b. c == 46 && b) (dots_alike t)

pub not_true : (a : Bool) → not a ≡ true → a ≡ false
not_true true h = absurd cc
not_true false h = refl

-- what the printer's test of a symbol's text says
pub record Symbolic (t : List ℕ) : Type 0 where
  pub dots : all_dots t ≡ false
  pub sharp : begins_with 35 t ≡ false
  pub shape : shape_of t ≡ shapes.Name

pub symbolic : (t : List ℕ) → is_symbol_text t ≡ true → Symbolic t
symbolic t h =
    let p = or_false (all_dots t || begins_with 35 t) (printed.is_number t) (not_true (all_dots t || begins_with 35 t || printed.is_number t) h) in
    let q = or_false (all_dots t) (begins_with 35 t) p.0 in
    let n = no_number (past_sign t) (ap is_unsigned (sym (sign_past t)) ∙ p.1) in
    record {
      dots = q.0;
      sharp = q.1;
      shape = ap (λ b. shape_by b (is_number (past_sign t)) (is_dots t)) n.0 ∙ ap (λ b. shape_by false b (is_dots t)) n.1 ∙ ap (shape_by false false) (dots_alike t ∙ q.0);
    }
