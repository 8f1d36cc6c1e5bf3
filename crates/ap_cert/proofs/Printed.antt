-- The lines of a certificate: none has a newline, and what each says can be read off it.
use Rattle.std.proofs.Common.{◌≡◌, ◌^◌, ◌<◌, ◌+◌, ◌%◌, ℕ, zero, suc, Bool, true, false, true≢false, not, nat_eq, nat_le, List, [], ◌∷◌, get_or, Ok, codes, decimal, refl, sym, ap, ◌∙◌, arith}
use Rattle.std.proofs.lemmas.Bool.{and_parts, eq-eqb, leb-true}
use Rattle.std.proofs.lemmas.Fmt.{decimal_by_steps, decimal_injective}
use Rattle.std.specs.List.{list_all}
use Rattle.std.specs.Prelude.{slice_index}
use Rattle.hex.specs.Hex.{encode_lower, encode_with, lower_digits, decode_of, IsBytes}
use Rattle.hex.proofs.HexLemmas.{decode_of-encode_lower}
use Rattle.ap_cert.specs.Cert.{Included, IsIncluded, IsDigest, is_name_byte, is_book_name, head_line, book_line, digest_line, include_line, events_line, end_line}
use Rattle.ap_cert.specs.Reads.{Without, IsName, IsCount, included, book_and_digest}
use Rattle.ap_cert.proofs.Split.{each-append, cut_apart, append_cancel}

-- the test that a byte doesn't stand in a text
abbrev pub lacks : ℕ → List ℕ → Bool
lacks byte text = list_all (λ c. not (nat_eq c byte)) text

not_true : (b : Bool) → not b ≡ true → b ≡ true → ⊥
not_true true h e = cc
not_true false h e = cc

pub without : (byte : ℕ) (text : List ℕ) → lacks byte text ≡ true → Without byte text
without byte [] h = tt
without byte (c ∷ cs) h =
    let parts = and_parts (not (nat_eq c byte)) (lacks byte cs) h in
    (λ e. not_true (nat_eq c byte) parts.0 (eq-eqb c byte e), without byte cs parts.1)

-- a name has neither a blank nor a newline
bytes_without : (byte : ℕ) → is_name_byte byte ≡ false → (name : List ℕ) → list_all is_name_byte name ≡ true → Without byte name
bytes_without byte other [] h = tt
bytes_without byte other (c ∷ cs) h =
    let parts = and_parts (is_name_byte c) (list_all is_name_byte cs) h in
    (λ e. true≢false (sym parts.0 ∙ ap is_name_byte e ∙ other), bytes_without byte other cs parts.1)

pub name_without : (byte : ℕ) → is_name_byte byte ≡ false → (name : List ℕ) → IsName name → Without byte name
unfolding is_book_name
name_without byte other name h = bytes_without byte other name (and_parts _ (list_all is_name_byte name) h).1

-- nor has a digest
index_not : (xs : List ℕ) → list_all (λ c. nat_le 48 c) xs ≡ true → (byte : ℕ) → 0 < byte → byte < 48 → (i : ℕ) → ¬ (slice_index xs i ≡ byte)
index_not [] h byte p q i e = omega arith
index_not (x ∷ xs) h byte p q zero e =
    let low = leb-true 48 x (and_parts (nat_le 48 x) (list_all (λ c. nat_le 48 c) xs) h).0 in omega arith
index_not (x ∷ xs) h byte p q (suc i) e = index_not xs (and_parts (nat_le 48 x) (list_all (λ c. nat_le 48 c) xs) h).1 byte p q i e

pub digits_without : (byte : ℕ) → 0 < byte → byte < 48 → (digest : List ℕ) → Without byte (encode_lower digest)
unfolding encode_with
digits_without byte p q [] = tt
digits_without byte p q (b ∷ bs) =
    (index_not lower_digits refl byte p q _, (index_not lower_digits refl byte p q _, digits_without byte p q bs))

-- nor a number
pub decimal_without : (byte : ℕ) → byte < 48 → (n : ℕ) → n < 2 ^ 64 → Without byte (decimal n)
decimal_without byte q =
    decimal_by_steps (λ n ds. Without byte ds) (λ n h. ((λ e. omega arith), tt)) (λ n ds h p. each-append (λ c. ¬ (c ≡ byte)) ds ((48 + n % 10) ∷ []) p ((λ e. omega arith), tt))

-- no line has a newline
pub head_plain : Without 10 head_line
unfolding head_line
head_plain = without 10 (codes "acl2p certificate 1") refl

pub end_plain : Without 10 end_line
unfolding end_line
end_plain = without 10 (codes "end") refl

pub book_plain : (name : List ℕ) → IsName name → Without 10 (book_line name)
unfolding book_line
book_plain name h = each-append (λ c. ¬ (c ≡ 10)) (codes "book ") name (without 10 (codes "book ") refl) (name_without 10 refl name h)

pub digest_plain : (digest : List ℕ) → IsDigest digest → Without 10 (digest_line digest)
unfolding digest_line
digest_plain digest h =
    each-append (λ c. ¬ (c ≡ 10)) (codes "sha256 ") (encode_lower digest) (without 10 (codes "sha256 ") refl) (digits_without 10 (omega arith) (omega arith) digest)

pub include_plain : (book : Included) → IsIncluded book → Without 10 (include_line book)
unfolding include_line
include_plain book h =
    each-append (λ c. ¬ (c ≡ 10)) (codes "include ") (book_and_digest book) (without 10 (codes "include ") refl)
    (each-append (λ c. ¬ (c ≡ 10)) book.0.0 (32 ∷ encode_lower book.1) (name_without 10 refl book.0.0 h.0) ((λ e. cc), digits_without 10 (omega arith) (omega arith) book.1))

pub events_plain : (n : ℕ) → IsCount n → Without 10 (events_line n)
unfolding events_line
events_plain n h =
    each-append (λ c. ¬ (c ≡ 10)) (codes "events ") (decimal n) (without 10 (codes "events ") refl) (decimal_without 10 (omega arith) n (omega arith))

-- and each says one thing
pub digits_same : (a b : List ℕ) → IsBytes a → IsBytes b → encode_lower a ≡ encode_lower b → a ≡ b
digits_same a b p q e =
    let both : Ok a ≡ Ok b = sym (decode_of-encode_lower a p) ∙ ap decode_of e ∙ decode_of-encode_lower b q in cc

pub book_same : (a b : List ℕ) → book_line a ≡ book_line b → a ≡ b
unfolding book_line
book_same a b e = append_cancel (codes "book ") a b e

pub digest_same : (a b : List ℕ) → IsDigest a → IsDigest b → digest_line a ≡ digest_line b → a ≡ b
unfolding digest_line
digest_same a b p q e = digits_same a b p.1 q.1 (append_cancel (codes "sha256 ") (encode_lower a) (encode_lower b) e)

same_pair : (x y s t : List ℕ) → x ≡ y → s ≡ t → included x s ≡ included y t
same_pair x y s t p q = cc

pub pair_same : (a b : Included) → IsIncluded a → IsIncluded b → book_and_digest a ≡ book_and_digest b → a ≡ b
pair_same a b p q e =
    let parts = cut_apart 32 a.0.0 b.0.0 (encode_lower a.1) (encode_lower b.1) (name_without 32 refl a.0.0 p.0) (name_without 32 refl b.0.0 q.0) e in
    same_pair a.0.0 b.0.0 a.1 b.1 parts.0 (digits_same a.1 b.1 p.1.1 q.1.1 parts.1)

pub include_same : (a b : Included) → IsIncluded a → IsIncluded b → include_line a ≡ include_line b → a ≡ b
unfolding include_line
include_same a b p q e = pair_same a b p q (append_cancel (codes "include ") (book_and_digest a) (book_and_digest b) e)

pub events_same : (m n : ℕ) → IsCount m → IsCount n → events_line m ≡ events_line n → m ≡ n
unfolding events_line
events_same m n p q e = decimal_injective m n (omega arith) (omega arith) (append_cancel (codes "events ") (decimal m) (decimal n) e)

-- an included book's line isn't that of the number
pub include_not_events : (book : Included) (n : ℕ) → ¬ (include_line book ≡ events_line n)
unfolding include_line events_line
include_not_events book n e =
    let first : ◌≡◌ {A = ℕ} 105 101 = ap (λ xs. get_or xs 0 0) e in omega arith
