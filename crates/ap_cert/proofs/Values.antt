-- Which digits are a digest, a number, and a name with a digest.
use Rattle.std.proofs.Common.{◌≡◌, ℕ, Bool, false, true≢false, ◌↔◌, IsTrue, List, Some, None, Result, decimal, refl, sym, ap, ◌∙◌, arith}
use Rattle.std.proofs.lemmas.Fmt.{IsAscii-decimal, parse-decimal}
use Rattle.std.proofs.lemmas.Str.{IsUtf8-from_ascii}
use Rattle.std.specs.Result.{result_ok}
use Rattle.std.specs.Str.{IsUtf8}
use Rattle.std.specs.Str.Parse.{ParsesUnsigned}
use Rattle.hex.specs.Hex.{encode_lower, decode_sized}
use Rattle.hex.specs.declared.error.FromHexError.{FromHexError}
use Rattle.hex.proofs.HexLemmas.{decode_sized-encode_lower}
use Rattle.ap_cert.specs.Cert.{IsDigest, IsIncluded, is_book_name}
use Rattle.ap_cert.specs.Reads.{Without, IsCut, ReadsNone, IsCount, book_and_digest}
use Rattle.ap_cert.proofs.Split.{cut_apart, without_not}
use Rattle.ap_cert.proofs.Printed.{name_without}

-- a digest
decoded : (digits digest : List ℕ) (r : Result (List ℕ) FromHexError) → r ≡ decode_sized digits 32 → IsDigest digest → digits ≡ encode_lower digest → result_ok r ≡ Some digest
decoded digits digest r e is f = ap result_ok (e ∙ ap (λ xs. decode_sized xs 32) f ∙ decode_sized-encode_lower digest 32 is.0 is.1)

pub no_digits : (digits : List ℕ) (r : Result (List ℕ) FromHexError) → r ≡ decode_sized digits 32 → result_ok r ≡ None → ReadsNone IsDigest encode_lower digits
no_digits digits r e none d is f = let both : Some d ≡ None = sym (decoded digits d r e is f) ∙ none in cc

pub other_digits : (digits digest : List ℕ) (r : Result (List ℕ) FromHexError) → r ≡ decode_sized digits 32 → result_ok r ≡ Some digest → ¬ (digits ≡ encode_lower digest)
    → ReadsNone IsDigest encode_lower digits
other_digits digits digest r e found other d is f =
    let both : Some digest ≡ Some d = sym found ∙ decoded digits d r e is f in
    let same : digest ≡ d = cc in
    other (f ∙ ap encode_lower (sym same))

-- a number
pub not_utf8 : (digits : List ℕ) → ¬ (IsUtf8 digits) → ReadsNone IsCount decimal digits
not_utf8 digits h n is e = h (rw e (IsUtf8-from_ascii (decimal n) (IsAscii-decimal n (omega arith))))

parsed : {E : Type 0} (digits : List ℕ) (n : ℕ) (r : Result ℕ E) → ParsesUnsigned 32 10 digits r → IsCount n → digits ≡ decimal n → result_ok r ≡ Some n
parsed {E = E} digits n r h is e = ap (result_ok {E = E}) (parse-decimal {E = E} 32 n digits r is (omega arith) e h)

pub no_number : {E : Type 0} (digits : List ℕ) (r : Result ℕ E) → ParsesUnsigned 32 10 digits r → result_ok r ≡ None → ReadsNone IsCount decimal digits
no_number digits r h none n is e = let both : Some n ≡ None = sym (parsed digits n r h is e) ∙ none in cc

pub other_number : {E : Type 0} (digits : List ℕ) (count : ℕ) (r : Result ℕ E) → ParsesUnsigned 32 10 digits r → result_ok r ≡ Some count → ¬ (digits ≡ decimal count)
    → ReadsNone IsCount decimal digits
other_number digits count r h found other n is e =
    let both : Some count ≡ Some n = sym found ∙ parsed digits n r h is e in
    let same : count ≡ n = cc in
    other (e ∙ ap decimal (sym same))

-- a name, a blank and a digest
pub no_blank : (line : List ℕ) → Without 32 line → ReadsNone IsIncluded book_and_digest line
no_blank line h book is e = without_not 32 book.0.0 (encode_lower book.1) (rw e at h)

pub not_named : (line name digits : List ℕ) → IsCut 32 line name digits → is_book_name name ≡ false → ReadsNone IsIncluded book_and_digest line
not_named line name digits cut h book is e =
    let same = (cut_apart 32 name book.0.0 digits (encode_lower book.1) cut.1 (name_without 32 refl book.0.0 is.0) (sym cut.0 ∙ e)).0 in
    true≢false (sym is.0 ∙ ap is_book_name (sym same) ∙ h)

pub not_digested : (line name digits : List ℕ) → IsCut 32 line name digits → ReadsNone IsDigest encode_lower digits → ReadsNone IsIncluded book_and_digest line
not_digested line name digits cut none book is e =
    none book.1 is.1 (cut_apart 32 name book.0.0 digits (encode_lower book.1) cut.1 (name_without 32 refl book.0.0 is.0) (sym cut.0 ∙ e)).1

-- a test that is false
pub told_false : {P : Type 0} (b : Bool) → (IsTrue b ↔ P) → b ≡ false → ¬ P
told_false b h e p = true≢false (sym (h.1 p) ∙ e)
