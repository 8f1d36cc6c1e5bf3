-- The certificate of a book: its text, which texts are one, and what is said of a text that is none for a book.
use Rattle.std.specs.Prelude.{ℕ, ◌^◌, ◌<◌, ◌≡◌, Bool, false, cond, not, ◌&&◌, ◌||◌, IsTrue, nat_eq, nat_le, List, [], ◌∷◌, ◌++◌, length, map, codes, decimal}
use Rattle.std.specs.List.{list_all}
use Rattle.ap_list.specs.Lists.{Each}
use Rattle.hex.specs.Hex.{encode_lower, IsBytes}
use Rattle.sha2.specs.Sha256.{sha256}
use Rattle.ap_value.specs.declared.symbol.BookName.{BookName}
use Rattle.ap_cert.specs.declared.cert.Cert.{Cert}
use Rattle.ap_cert.specs.declared.cert.CertError.{CertError}
use Rattle.ap_cert.specs.declared.cert.CertError.TheVariants.{NotCert, Version, Truncated, HashDiffers, NoMemory}

-- between two codes, both among them
abbrev pub is_between : ℕ → ℕ → ℕ → Bool
is_between low high b = nat_le low b && nat_le b high

-- a letter, a digit, a hyphen (45) or an underscore (95)
abbrev pub is_name_byte : ℕ → Bool
is_name_byte b = is_between 97 122 b || is_between 65 90 b || is_between 48 57 b || nat_eq b 45 || nat_eq b 95

-- a book's name doesn't begin with a hyphen
abbrev pub begins_well : List ℕ → Bool
begins_well [] = false
begins_well (b ∷ bs) = not (nat_eq b 45)

-- a book's name: 1 to 64 such bytes
unfoldable pub is_book_name : List ℕ → Bool
is_book_name name = begins_well name && nat_le (length name) 64 && list_all is_name_byte name

-- a book that is included, with its digest
abbrev pub Included : Type 0
Included = BookName × List ℕ

-- the lines of a certificate
unfoldable pub head_line : List ℕ
head_line = codes "acl2p certificate 1"

unfoldable pub book_line : List ℕ → List ℕ
book_line name = codes "book " ++ name

unfoldable pub digest_line : List ℕ → List ℕ
digest_line digest = codes "sha256 " ++ encode_lower digest

unfoldable pub include_line : Included → List ℕ
include_line book = codes "include " ++ (book.0.0 ++ 32 ∷ encode_lower book.1)

unfoldable pub events_line : ℕ → List ℕ
events_line n = codes "events " ++ decimal n

unfoldable pub end_line : List ℕ
end_line = codes "end"

abbrev pub lines_of : Cert → List (List ℕ)
lines_of c =
    head_line ∷ book_line c.book.0 ∷ digest_line c.digest ∷ (map include_line c.includes ++ events_line c.events ∷ end_line ∷ [])

-- lines, each ended by a newline
unfoldable pub ended : List (List ℕ) → List ℕ
ended [] = []
ended (line ∷ lines) = line ++ 10 ∷ ended lines

-- the text of a certificate
abbrev pub cert_text : Cert → List ℕ
cert_text c = ended (lines_of c)

-- a digest has 32 bytes
abbrev pub IsDigest : List ℕ → Type 0
IsDigest digest = (length digest ≡ 32) × IsBytes digest

abbrev pub IsIncluded : Included → Type 0
IsIncluded book = IsTrue (is_book_name book.0.0) × IsDigest book.1

-- what a certificate keeps: its names are books' names. That its digests and its number fit is kept by the program's type
-- already, and is said here of any other value
pub record WellWritten (c : Cert) : Type 0 where
  pub book : IsTrue (is_book_name c.book.0)
  pub digest : IsDigest c.digest
  pub includes : Each IsIncluded c.includes
  pub events : c.events < 2 ^ 32

-- a text is this certificate
abbrev pub IsCert : List ℕ → Cert → Type 0
IsCert text c = (text ≡ cert_text c) × WellWritten c

-- a text up to its first newline, or all of it where there is none
unfoldable pub first_line : List ℕ → List ℕ
first_line [] = []
first_line (c ∷ cs) = cond (nat_eq c 10) [] (c ∷ first_line cs)

-- what a certificate of any version begins with
unfoldable pub title : List ℕ
title = codes "acl2p certificate "

-- what each answer says of a text and of the book's bytes; of want of memory nothing is said
abbrev pub Refuses : CertError → List ℕ → List ℕ → Type 0
Refuses NotCert text book = (rest : List ℕ) → ¬ (first_line text ≡ title ++ rest)
Refuses Version text book = (rest : List ℕ) × (first_line text ≡ title ++ rest) × ¬ (rest ≡ codes "1")
Refuses Truncated text book = (first_line text ≡ head_line) × ((c : Cert) → ¬ IsCert text c)
Refuses (HashDiffers named found) text book =
    (c : Cert) × IsCert text c × (c.digest ≡ named) × (sha256 book ≡ found) × ¬ (named ≡ found)
Refuses NoMemory text book = ⊥
