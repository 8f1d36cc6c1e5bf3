-- Bytes are bounded numbers, so texts with the same bytes are the same texts.
use Rattle.std.proofs.Common.{◌≡◌, ℕ, suc, ◌<◌, ◌%◌, ◌↔◌, Bool, IsTrue, List, [], ◌∷◌, map, get_or, refl, ap, ◌∙◌, arith}
use mathlib.Core.HLevel.{is_prop→PathP}
use native.Mathlib.Bridge.{le_prop}
use Rattle.ap_value.specs.Values.{Byte, byte_of}

-- two bytes with one code are one
pub same_byte : (b c : Byte) → b.code ≡ c.code → b ≡ c
same_byte b c e = λ i. record { code = e i; small = is_prop→PathP (λ j. e j < 256) (λ j. le_prop) b.small c.small i }

-- a byte is the byte of its code
pub byte_of_code : (b : Byte) → byte_of b.code ≡ b
byte_of_code b = let small : b.code < 256 = b.small in same_byte _ _ (omega arith)

-- below 256 the byte of a number has that number
pub code_of_byte : (n : ℕ) → n < 256 → (byte_of n).code ≡ n
code_of_byte n small = omega arith

-- the numbers of a text are below 256
abbrev pub AreSmall : List ℕ → Type 0
AreSmall xs = (i : ℕ) → get_or xs i 0 < 256

-- texts of small numbers with the same bytes are the same
pub same_bytes_of : (xs ys : List ℕ) → AreSmall xs → AreSmall ys → map byte_of xs ≡ map byte_of ys → xs ≡ ys
same_bytes_of [] [] s t e = refl
same_bytes_of (x ∷ xs) (y ∷ ys) s t e =
    let heads : byte_of x ≡ byte_of y = cc in
    let tails : map byte_of xs ≡ map byte_of ys = cc in
    let codes : x % 256 ≡ y % 256 = ap (λ b. b.code) heads in
    let small_x : x < 256 = s 0 in
    let small_y : y < 256 = t 0 in
    let same : x ≡ y = omega arith in
    ap (λ n. n ∷ xs) same ∙ ap (λ zs. y ∷ zs) (same_bytes_of xs ys (λ i. s (suc i)) (λ i. t (suc i)) tails)
same_bytes_of [] (y ∷ ys) s t e = cc
same_bytes_of (x ∷ xs) [] s t e = cc

-- numbers below 256 with the same byte are the same
pub same_code_of : (m n : ℕ) → m < 256 → n < 256 → byte_of m ≡ byte_of n → m ≡ n
same_code_of m n small_m small_n e = let codes : m % 256 ≡ n % 256 = ap (λ b. b.code) e in omega arith

-- a test of equal texts tells equal bytes, and one of equal codes too
pub texts_meant : (xs ys : List ℕ) (b : Bool) → AreSmall xs → AreSmall ys → (IsTrue b ↔ (xs ≡ ys))
    → (IsTrue b ↔ (map byte_of xs ≡ map byte_of ys))
texts_meant xs ys b s t h = (λ k. ap (map byte_of) (h.0 k), λ e. h.1 (same_bytes_of xs ys s t e))

pub codes_meant : (m n : ℕ) (b : Bool) → m < 256 → n < 256 → (IsTrue b ↔ (m ≡ n)) → (IsTrue b ↔ (byte_of m ≡ byte_of n))
codes_meant m n b s t h = (λ k. ap byte_of (h.0 k), λ e. h.1 (same_code_of m n s t e))
