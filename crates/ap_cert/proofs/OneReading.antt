-- Two well-written certificates with one text are one.
use Rattle.std.proofs.Common.{◌≡◌, ℕ, List, [], ◌∷◌, ◌++◌, map, refl, sym, ◌∙◌}
use Rattle.ap_list.specs.Lists.{Each}
use Rattle.ap_cert.specs.declared.cert.Cert.{Cert}
use Rattle.ap_cert.specs.Cert.{Included, IsIncluded, WellWritten, IsCert, lines_of, book_line, digest_line, include_line, events_line, end_line}
use Rattle.ap_cert.specs.Reads.{Without, IsCount}
use Rattle.ap_cert.proofs.Split.{each-append, lines_apart}
use Rattle.ap_cert.proofs.Printed.{head_plain, end_plain, book_plain, digest_plain, include_plain, events_plain, book_same, digest_same, include_same, events_same, include_not_events}

includes_plain : (books : List Included) → Each IsIncluded books → Each (Without 10) (map include_line books)
includes_plain [] h = tt
includes_plain (b ∷ bs) h = (include_plain b h.0, includes_plain bs h.1)

lines_plain : (c : Cert) → WellWritten c → Each (Without 10) (lines_of c)
lines_plain c w = (
  head_plain,
  (
    book_plain c.book.0 w.book,
    (
      digest_plain c.digest w.digest,
      each-append (Without 10) (map include_line c.includes) (events_line c.events ∷ end_line ∷ [])
          (includes_plain c.includes w.includes) (events_plain c.events w.events, (end_plain, tt)),
    ),
  ),
)

-- the lines behind the digest's
abbrev more : List Included → ℕ → List (List ℕ)
more books n = map include_line books ++ events_line n ∷ end_line ∷ []

more_same : (xs ys : List Included) (m n : ℕ) → Each IsIncluded xs → Each IsIncluded ys → IsCount m → IsCount n → more xs m ≡ more ys n → (xs ≡ ys) × (m ≡ n)
more_same [] [] m n p q a b e = let line : events_line m ≡ events_line n = cc in (refl, events_same m n a b line)
more_same [] (y ∷ ys) m n p q a b e = let line : include_line y ≡ events_line m = cc in absurd (include_not_events y m line)
more_same (x ∷ xs) [] m n p q a b e = let line : include_line x ≡ events_line n = cc in absurd (include_not_events x n line)
more_same (x ∷ xs) (y ∷ ys) m n p q a b e =
    let line : include_line x ≡ include_line y = cc in
    let rest : more xs m ≡ more ys n = cc in
    let first : x ≡ y = include_same x y p.0 q.0 line in
    let others = more_same xs ys m n p.1 q.1 a b rest in
    let after : xs ≡ ys = others.0 in
    (cc, others.1)

abbrev pub cert_with : List ℕ → List ℕ → List Included → ℕ → Cert
cert_with name digest includes events = record { book = record { 0 = name }; digest = digest; includes = includes; events = events }

same_parts : (a b d e : List ℕ) (i j : List Included) (m n : ℕ) → a ≡ b → d ≡ e → i ≡ j → m ≡ n → cert_with a d i m ≡ cert_with b e j n
same_parts a b d e i j m n p q r s = cc

pub one_reading : (text : List ℕ) (c d : Cert) → IsCert text c → IsCert text d → c ≡ d
one_reading text c d p q =
    let lines : lines_of c ≡ lines_of d = lines_apart (lines_of c) (lines_of d) (lines_plain c p.1) (lines_plain d q.1) (sym p.0 ∙ q.0) in
    let book : book_line c.book.0 ≡ book_line d.book.0 = cc in
    let digest : digest_line c.digest ≡ digest_line d.digest = cc in
    let rest : more c.includes c.events ≡ more d.includes d.events = cc in
    let behind = more_same c.includes d.includes c.events d.events p.1.includes q.1.includes p.1.events q.1.events rest in
    same_parts c.book.0 d.book.0 c.digest d.digest c.includes d.includes c.events d.events (book_same _ _ book) (digest_same _ _ p.1.digest q.1.digest digest) behind.0 behind.1
