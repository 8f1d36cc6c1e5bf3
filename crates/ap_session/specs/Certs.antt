-- The certificate that a certified book leaves: its digest, how many single events it has, and the books that it includes,
-- each once, with their digests.
use Rattle.std.specs.Prelude.{◌≢◌, ℕ, Bool, cond, List, [], ◌∷◌, ◌++◌, map, Option, Some, None, option_map, codes}
use Rattle.std.specs.List.{list_any}
use Rattle.sha2.specs.Sha256.{sha256}
use Rattle.ap_list.specs.Lists.{lookup_by}
use Rattle.ap_value.specs.Values.{bytes_eq}
use Rattle.ap_outside.specs.declared.library.BookRead.{BookRead}
use Rattle.ap_outside.specs.declared.library.BookRead.TheVariants.{Absent, TooLong, Found}
use Rattle.ap_outside.specs.Files.{Files}
use Rattle.ap_books.specs.declared.admitter.BookSeen.{BookSeen}
use Rattle.ap_books.specs.Bodies.{forms_of}
use Rattle.ap_cert.specs.declared.cert.Cert.{Cert}
use Rattle.ap_cert.specs.Cert.{Included, cert_text}
use Rattle.ap_events.specs.declared.held.Held.{Held}
use Rattle.ap_events.specs.Held.{held_in}

-- books by their names, as they were read
abbrev pub Seen : Type 0
Seen = List (List ℕ × BookRead)

-- of books of a report
abbrev pub seen_in : List BookSeen → Seen
seen_in books = map (λ b. (b.name.0, b.read)) books

-- the digest of a book; one that isn't there has that of no bytes
abbrev pub read_digest : BookRead → List ℕ
read_digest (Found book) = sha256 book.0
read_digest Absent = sha256 []
read_digest TooLong = sha256 []

-- the digest of the first book of a name
abbrev pub digest_in : Seen → List ℕ → Option (List ℕ)
digest_in seen name = option_map read_digest (lookup_by bytes_eq seen name)

abbrev pub is_listed : List Included → List ℕ → Bool
is_listed includes name = list_any (λ book. bytes_eq book.0.0 name) includes

-- one included book more
abbrev pub with_digest : List Included → List ℕ → Option (List ℕ) → List Included
with_digest includes name None = includes
with_digest includes name (Some digest) = includes ++ (record { 0 = name }, digest) ∷ []

abbrev pub with_include : Seen → List Included → List ℕ → List Included
with_include seen includes name = cond (is_listed includes name) includes (with_digest includes name (digest_in seen name))

abbrev pub with_includes : Seen → List (List ℕ) → List Included → List Included
with_includes seen [] includes = includes
with_includes seen (name ∷ names) includes = with_includes seen names (with_include seen includes name)

abbrev pub cert_by : Seen → List ℕ → BookRead → Held → Cert
cert_by seen name read held = record {
  book = record { 0 = name };
  digest = read_digest read;
  includes = with_includes seen held.books [];
  events = held.events;
}

-- the certificate of a book, behind others
abbrev pub cert_of : Seen → List ℕ → BookRead → Cert
cert_of seen name read = cert_by seen name read (held_in (forms_of read))

-- the file that it is stored in
abbrev pub cert_name : List ℕ → List ℕ
cert_name name = name ++ codes ".cert"

-- a name that isn't that of such a file
abbrev pub EndsOtherwise : List ℕ → Type 0
EndsOtherwise name = (book : List ℕ) → name ≢ cert_name book

-- what a book stores
abbrev pub files_by : Seen → List ℕ → BookRead → Bool → Files
files_by seen name read certified = cond certified ((cert_name name, cert_text (cert_of seen name read)) ∷ []) []
