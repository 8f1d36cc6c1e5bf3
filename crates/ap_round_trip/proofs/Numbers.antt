-- What the printer takes for a number the reader takes for one.
use Rattle.std.proofs.Common.{◌≡◌, ℕ, ◌==◌, ◌||◌, ◌&&◌, Bool, true, false, List, [], ◌∷◌, refl, sym, ap, ◌∙◌}
use Rattle.std.specs.Prelude.{if◌then◌else◌}
use Rattle.ap_tokens.proofs.Sound.{and_both}
use Rattle.ap_value.proofs.Equals.{and_true}
use Rattle.ap_reader.specs.Numbers.{is_digit, past_digits, has_digit, is_over, is_digits, is_below, is_ratio, is_pointed, is_decimal, is_exponent, is_fraction, is_scaled, is_number}
use Rattle.ap_term.specs.Atoms as printed
use Rattle.ap_term.specs.Atoms.{is_empty, begins_with_digit, after_digits, ends_fraction, ends_number, is_point_digits, is_unsigned}
use Rattle.ap_round_trip.proofs.Shapes.{digit_first, digits_past, over, digits_alike, exponent_alike, no_digit_past}

or_first : (a b : Bool) → a ≡ true → (a || b) ≡ true
or_first true b h = refl
or_first false b h = cc

or_second : (a b : Bool) → b ≡ true → (a || b) ≡ true
or_second true b h = refl
or_second false b h = h

-- an integer, or another number
abbrev Numeric : List ℕ → Type 0
Numeric u = (is_digits u || is_number u) ≡ true

ratio : (u : List ℕ) → is_ratio u ≡ true → Numeric u
ratio u h = or_second (is_digits u) (is_number u) (or_first (is_ratio u || is_decimal u) (is_scaled u) (or_first (is_ratio u) (is_decimal u) h))

decimal : (u : List ℕ) → is_decimal u ≡ true → Numeric u
decimal u h = or_second (is_digits u) (is_number u) (or_first (is_ratio u || is_decimal u) (is_scaled u) (or_second (is_ratio u) (is_decimal u) h))

scaled : (u : List ℕ) → is_scaled u ≡ true → Numeric u
scaled u h = or_second (is_digits u) (is_number u) (or_second (is_ratio u || is_decimal u) (is_scaled u) h)

-- what stands behind a number's first digits
module _ (u : List ℕ) (d : has_digit u ≡ true) where
  behind_point : (cs : List ℕ) → past_digits u ≡ 46 ∷ cs → ends_fraction cs ≡ true → Numeric u
  behind_point [] p h = decimal u (rw (d, p) refl)
  behind_point (c ∷ cs) p h =
      let k = and_both (begins_with_digit (c ∷ cs)) (is_empty (after_digits (c ∷ cs)) || printed.is_exponent (after_digits (c ∷ cs))) h in
      by (is_empty (after_digits (c ∷ cs))) (printed.is_exponent (after_digits (c ∷ cs))) refl refl k.1 (sym (digit_first (c ∷ cs)) ∙ k.0)
    where
      by : (o x : Bool) → is_empty (after_digits (c ∷ cs)) ≡ o → printed.is_exponent (after_digits (c ∷ cs)) ≡ x → (o || x) ≡ true → has_digit (c ∷ cs) ≡ true → Numeric u
      by true x e f k q =
          let all : is_over (past_digits (c ∷ cs)) ≡ true = sym (over (past_digits (c ∷ cs))) ∙ ap is_empty (sym (digits_past (c ∷ cs))) ∙ e in
          decimal u (ap (is_pointed (has_digit u)) p ∙ ap (λ b. 46 == 46 && (b || has_digit (c ∷ cs)) && is_over (past_digits (c ∷ cs))) d ∙ all)
      by false true e f k q =
          let more : is_exponent (past_digits (c ∷ cs)) ≡ true = sym (exponent_alike (past_digits (c ∷ cs))) ∙ ap printed.is_exponent (sym (digits_past (c ∷ cs))) ∙ f in
          let fraction : is_fraction (46 ∷ c ∷ cs) ≡ true = and_true (has_digit (c ∷ cs)) (is_exponent (past_digits (c ∷ cs))) q more in
          scaled u (and_true (has_digit u) (is_exponent (past_digits u) || is_fraction (past_digits u)) d
          (or_second (is_exponent (past_digits u)) (is_fraction (past_digits u)) (ap is_fraction p ∙ fraction)))
      by false false e f k q = cc

  behind : (r : List ℕ) → past_digits u ≡ r → ends_number r ≡ true → Numeric u
  behind [] p h = or_first (is_digits u) (is_number u) (and_true (has_digit u) (is_over (past_digits u)) d (ap is_over p))
  behind (c ∷ cs) p h = by (c == 47) (c == 46) refl refl h
    where
      by : (a b : Bool) → (c == 47) ≡ a → (c == 46) ≡ b → (if a then printed.is_digits cs else (if b then ends_fraction cs else printed.is_exponent (c ∷ cs))) ≡ true → Numeric u
      by true b e f h =
          ratio u (and_true (has_digit u) (is_below (past_digits u)) d (ap is_below p ∙ and_true (c == 47) (is_digits cs) e (sym (digits_alike cs) ∙ h)))
      by false true e f h = behind_point cs (p ∙ ap (λ n. n ∷ cs) (Rattle.ap_tokens.proofs.Sound.same c 46 f)) h
      by false false e f h =
          scaled u (and_true (has_digit u) (is_exponent (past_digits u) || is_fraction (past_digits u)) d
          (or_first (is_exponent (past_digits u)) (is_fraction (past_digits u)) (ap is_exponent p ∙ sym (exponent_alike (c ∷ cs)) ∙ h)))

pub numeric : (u : List ℕ) → is_unsigned u ≡ true → Numeric u
numeric [] h = absurd (let k : false ≡ true = h in cc)
numeric (c ∷ cs) h = by (is_digit c) refl h
  where
    by : (b : Bool) → is_digit c ≡ b → (if b then ends_number (after_digits (c ∷ cs)) else is_point_digits (c ∷ cs)) ≡ true → Numeric (c ∷ cs)
    by true e h = behind (c ∷ cs) e (past_digits (c ∷ cs)) refl (ap ends_number (sym (digits_past (c ∷ cs))) ∙ h)
    by false e h =
        let k = and_both (c == 46) (printed.is_digits cs) h in
        let q = and_both (has_digit cs) (is_over (past_digits cs)) (sym (digits_alike cs) ∙ k.1) in
        decimal (c ∷ cs) (ap (λ b. is_pointed b (past_digits (c ∷ cs))) e ∙ ap (is_pointed false) (no_digit_past c cs e) ∙ rw (k.0, q.0, q.1) refl)
