-- Words of a line: numbers, options, names.
use Rattle.std.proofs.Common.{◌≡◌, ◌∙◌, ◌≤◌, ◌<◌, ◌+◌, ◌*◌, ◌-◌, ◌^◌, ◌⊎◌, inl, inr, ℕ, Bool, true, false, true≢false, cond, not, ◌&&◌, nat_eq, nat_le, List, [], ◌∷◌, length, get_or, Option, Some, None, unwrap_or, decimal, refl, ap, sym, subst, arith}
use Rattle.std.specs.List.{list_all}
use Rattle.std.proofs.lemmas.Bool.{eqb-true, leb-true, le-leb}
use Rattle.std.proofs.lemmas.Fmt.{first_decimal, digits_decimal, digits_value-decimal, decimal-digits_value}
use Rattle.std.proofs.lemmas.Str.Parse.{IsDigitsTest, FoldsDigits, IsNumeralModel, numerals_by_fold}
use Rattle.ap_value.specs.Values.{bytes_eq}
use Rattle.ap_value.proofs.Equals.{both, and_true, bytes_eq-true}
use Rattle.ap_session.specs.declared.command.Counted.TheVariants.{Workers, Steps, Goals, Revert, Functions}
use Rattle.ap_session.specs.declared.command.Flag.{Flag}
use Rattle.ap_session.specs.declared.command.Flag.TheVariants.{Number, Trace}
use Rattle.ap_session.specs.Command.{is_digit, leads, is_number, read_on, number_in, flag_of}
use Rattle.ap_session.specs.CommandLines.{word_of}
use Rattle.ap_session.proofs.Numbers.{grows}

-- a test that picked a value
pub cond_some : {A : Type 0} (t : Bool) (x y : A) → cond t (Some x) None ≡ Some y → (t ≡ true) × (x ≡ y)
cond_some false x y h = cc
cond_some true x y h = (refl, ap (λ o. unwrap_or o x) h)

-- numbers

tells : IsDigitsTest (λ ds. list_all is_digit ds ≡ true)
tells = record {
  empty = refl;
  parts = λ c cs e.
      let k = both (is_digit c) (list_all is_digit cs) e in
      let m = both (nat_le 48 c) (nat_le c 57) k.0 in
      ((leb-true 48 c m.0, leb-true c 57 m.1), k.1);
  more = λ c cs k e. and_true (is_digit c) (list_all is_digit cs) (and_true (nat_le 48 c) (nat_le c 57) (le-leb 48 c k.0) (le-leb c 57 k.1)) e;
}

folds : FoldsDigits read_on
folds = record { empty = λ n. refl; more = λ n c cs k. ap (λ m. read_on m cs) (omega arith) }

numerals : IsNumeralModel (λ ds. list_all is_digit ds ≡ true) (read_on 0)
numerals = numerals_by_fold (λ ds. list_all is_digit ds ≡ true) tells read_on folds

leads_digits : (w : List ℕ) → leads w ≡ true → (0 < length w) × ¬ (get_or w 0 0 ≡ 48)
leads_digits [] h = cc
leads_digits (b ∷ bs) h = (omega arith, λ e. true≢false (sym h ∙ ap (λ c. not (nat_eq c 48)) e))

leads_past : (w : List ℕ) → 48 < get_or w 0 0 → leads w ≡ true
leads_past [] h = absurd (omega arith)
leads_past (b ∷ bs) h = go (nat_eq b 48) refl
  where
    go : (t : Bool) → nat_eq b 48 ≡ t → not t ≡ true
    go false q = refl
    go true q = let e : b ≡ 48 = eqb-true b 48 q in absurd (omega arith)

leads_some : (w : List ℕ) → leads w ≡ true → list_all is_digit w ≡ true → 1 ≤ read_on 0 w
leads_some [] h d = cc
leads_some (b ∷ bs) h d =
    let k = tells.parts b bs d in
    let n : ¬ (b ≡ 48) = (leads_digits (b ∷ bs) h).1 in
    let more = grows (10 * 0 + (b - 48)) bs in
    omega (arith, k.0, n, more)

-- a word that is read as a number is that number in decimal digits
pub number_read : (most n : ℕ) (w : List ℕ) → most < 2 ^ 64 → number_in most w ≡ Some n → (w ≡ decimal n) × ((1 ≤ n) × (n ≤ most))
number_read most n w small h =
    let t = cond_some (is_number w && nat_le (read_on 0 w) most) (read_on 0 w) n h in
    let k = both (is_number w) (nat_le (read_on 0 w) most) t.0 in
    let d = both (leads w) (list_all is_digit w) k.0 in
    let l = leads_digits w d.0 in
    let few : read_on 0 w ≤ most = leb-true (read_on 0 w) most k.1 in
    let some : 1 ≤ read_on 0 w = leads_some w d.0 d.1 in
    let same : decimal (read_on 0 w) ≡ w = decimal-digits_value numerals w d.1 l.0 (λ e. absurd (l.1 e)) (omega arith) in
    (sym same ∙ ap decimal t.1, subst (λ m. (1 ≤ m) × (m ≤ most)) t.1 (some, few))

-- and what is written of a number is read as it
pub number_written : (most n : ℕ) → most < 2 ^ 64 → 1 ≤ n → n ≤ most → number_in most (decimal n) ≡ Some n
number_written most n small some few =
    let same : read_on 0 (decimal n) ≡ n = digits_value-decimal numerals n (omega arith) in
    let d : list_all is_digit (decimal n) ≡ true = digits_decimal numerals n (omega arith) in
    let l : leads (decimal n) ≡ true = leads_past (decimal n) (first_decimal n (omega arith) (omega arith)) in
    let f : nat_le (read_on 0 (decimal n)) most ≡ true = le-leb (read_on 0 (decimal n)) most (omega (arith, same)) in
    let t : (is_number (decimal n) && nat_le (read_on 0 (decimal n)) most) ≡ true =
    and_true (is_number (decimal n)) (nat_le (read_on 0 (decimal n)) most) (and_true (leads (decimal n)) (list_all is_digit (decimal n)) l d) f in
    ap (λ b. cond b (Some (read_on 0 (decimal n))) None) t ∙ ap Some same

-- options

chosen : {A : Type 0} (t : Bool) (x y : A) (o : Option A) → cond t (Some x) o ≡ Some y → ((t ≡ true) × (x ≡ y)) ⊎ (o ≡ Some y)
chosen true x y o h = inl (refl, ap (λ o. unwrap_or o x) h)
chosen false x y o h = inr h

-- a word that is an option is its name
pub flag_read : (w : List ℕ) (f : Flag) → flag_of w ≡ Some f → w ≡ word_of f
flag_read w f h = tried (Number Workers) _ h (λ h. tried (Number Steps) _ h (λ h. tried (Number Goals) _ h (λ h. tried (Number Revert) _ h
    (λ h. tried (Number Functions) _ h (λ h. tried Trace None h (λ h. cc))))))
  where
    tried : (g : Flag) (o : Option Flag) → cond (bytes_eq w (word_of g)) (Some g) o ≡ Some f → (o ≡ Some f → w ≡ word_of f) → w ≡ word_of f
    tried g o h more = go (chosen (bytes_eq w (word_of g)) g f o h)
      where
        go : ((bytes_eq w (word_of g) ≡ true) × (g ≡ f)) ⊎ (o ≡ Some f) → w ≡ word_of f
        go (inl e) = bytes_eq-true w (word_of g) e.0 ∙ ap word_of e.1
        go (inr e) = more e

pub flag_written : (f : Flag) → flag_of (word_of f) ≡ Some f
flag_written (Number Workers) = refl
flag_written (Number Steps) = refl
flag_written (Number Goals) = refl
flag_written (Number Revert) = refl
flag_written (Number Functions) = refl
flag_written Trace = refl

-- a word that doesn't begin with a hyphen is no option
pub no_flag : (b : ℕ) (bs : List ℕ) → nat_eq b 45 ≡ false → flag_of (b ∷ bs) ≡ None
no_flag b bs h = rw h refl
