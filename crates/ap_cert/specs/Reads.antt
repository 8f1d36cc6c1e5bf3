-- What the parts of a certificate are read as: from a whole line, from the first line of a text, from a whole text.
use Rattle.std.specs.Prelude.{ℕ, ◌^◌, ◌<◌, ◌≡◌, List, [], ◌∷◌, ◌++◌, ◌⊎◌, map, IsTrue, Result, Ok, Err}
use Rattle.ap_list.specs.Lists.{Each}
use Rattle.hex.specs.Hex.{encode_lower}
use Rattle.sha2.specs.Sha256.{sha256}
use Rattle.ap_cert.specs.declared.cert.Cert.{Cert}
use Rattle.ap_cert.specs.declared.cert.CertError.{CertError}
use Rattle.ap_cert.specs.declared.cert.CertError.TheVariants.{HashDiffers, NoMemory}
use Rattle.ap_cert.specs.Cert.{Included, IsDigest, IsIncluded, is_book_name, ended, book_line, digest_line, include_line, events_line, end_line, IsCert, Refuses}

-- a byte doesn't stand in a text
abbrev pub Without : ℕ → List ℕ → Type 0
Without byte text = Each (λ c. ¬ (c ≡ byte)) text

-- a text up to the first such byte, and what stands after it
abbrev pub IsCut : ℕ → List ℕ → List ℕ → List ℕ → Type 0
IsCut byte text front rest = (text ≡ front ++ byte ∷ rest) × Without byte front

-- a text is what a prints as, and what nothing prints as
abbrev pub Reads : {A : Type 0} → (A → Type 0) → (A → List ℕ) → List ℕ → A → Type 0
Reads Is print text a = Is a × (text ≡ print a)

abbrev pub ReadsNone : {A : Type 0} → (A → Type 0) → (A → List ℕ) → List ℕ → Type 0
ReadsNone {A} Is print text = (a : A) → Is a → ¬ (text ≡ print a)

-- a prints as the first line of a text, with the rest after it, and nothing does
abbrev pub Heads : {A : Type 0} → (A → Type 0) → (A → List ℕ) → List ℕ → A → List ℕ → Type 0
Heads Is print text a rest = Is a × (text ≡ print a ++ 10 ∷ rest)

abbrev pub HeadsNone : {A : Type 0} → (A → Type 0) → (A → List ℕ) → List ℕ → Type 0
HeadsNone {A} Is print text = (a : A) (rest : List ℕ) → Is a → ¬ (text ≡ print a ++ 10 ∷ rest)

abbrev pub IsName : List ℕ → Type 0
IsName name = IsTrue (is_book_name name)

abbrev pub IsCount : ℕ → Type 0
IsCount n = n < 2 ^ 32

abbrev pub included : List ℕ → List ℕ → Included
included name digest = (record { 0 = name }, digest)

-- a book's name and digest that a text begins with, and what stands after them
abbrev pub front_text : List ℕ → List ℕ → List ℕ → List ℕ
front_text name digest rest = book_line name ++ 10 ∷ (digest_line digest ++ 10 ∷ rest)

pub record IsFront (text name digest rest : List ℕ) : Type 0 where
  pub name_is : IsName name
  pub digest_is : IsDigest digest
  pub prints : text ≡ front_text name digest rest

abbrev pub FrontNone : List ℕ → Type 0
FrontNone text = (name digest rest : List ℕ) → IsName name → IsDigest digest → ¬ (text ≡ front_text name digest rest)

-- the included books that a text begins with, and what stands after them
pub record IsIncludes (text : List ℕ) (books : List Included) (rest : List ℕ) : Type 0 where
  pub each : Each IsIncluded books
  pub prints : text ≡ ended (map include_line books) ++ rest
  pub none : HeadsNone IsIncluded include_line rest

-- the last two lines
abbrev pub tail_text : ℕ → List ℕ
tail_text n = ended (events_line n ∷ end_line ∷ [])

-- the error that names two digests which differ
abbrev pub Differs : List ℕ → List ℕ → CertError → Type 0
Differs named found e = (e ≡ HashDiffers named found) × ¬ (named ≡ found)

-- what stands after the first line
abbrev pub body_text : Cert → List ℕ
body_text c = ended (book_line c.book.0 ∷ digest_line c.digest ∷ (map include_line c.includes ++ events_line c.events ∷ end_line ∷ []))

-- an included book as its line has it after the word
abbrev pub book_and_digest : Included → List ℕ
book_and_digest book = book.0.0 ++ 32 ∷ encode_lower book.1

-- what an answer says of a text and a book
abbrev pub Answers : Result Cert CertError → List ℕ → List ℕ → Type 0
Answers (Ok c) text book = IsCert text c × (c.digest ≡ sha256 book)
Answers (Err e) text book = (e ≡ NoMemory) ⊎ Refuses e text book
