-- What the parts of a certificate behind its first line are read as.
use Rattle.std.proofs.Common.{◌≡◌, ℕ, List, [], ◌∷◌, ◌++◌, map, codes, refl, sym, ap, ◌∙◌}
use mathlib.Core.List.{append_assoc}
use Rattle.ap_list.specs.Lists.{Each}
use Rattle.ap_cert.specs.declared.cert.Cert.{Cert}
use Rattle.ap_cert.specs.Cert.{Included, IsIncluded, IsDigest, WellWritten, ended, book_line, digest_line, include_line, events_line, end_line}
use Rattle.ap_cert.specs.Reads.{Reads, ReadsNone, Heads, HeadsNone, IsName, IsCount, IsFront, FrontNone, front_text, IsIncludes, tail_text, body_text}
use Rattle.ap_cert.proofs.Split.{each-append, cut_apart, ended-append, ended-cons}
use Rattle.ap_cert.proofs.Printed.{book_plain, digest_plain, include_plain, events_plain, include_not_events}
use Rattle.ap_cert.proofs.OneReading.{cert_with}

-- the first two lines
pub no_book : (text : List ℕ) → HeadsNone IsName book_line text → FrontNone text
no_book text none name digest rest p q e = none name _ p e

pub no_digest : (text name rest : List ℕ) → Heads IsName book_line text name rest → HeadsNone IsDigest digest_line rest → FrontNone text
no_digest text name rest head none n d t p q e =
    let behind = (cut_apart 10 (book_line name) (book_line n) rest (digest_line d ++ 10 ∷ t) (book_plain name head.0) (book_plain n p) (sym head.1 ∙ e)).1 in
    none d t q behind

pub the_front : (text name rest digest left : List ℕ) → Heads IsName book_line text name rest → Heads IsDigest digest_line rest digest left → IsFront text name digest left
the_front text name rest digest left a b = record { name_is = a.0; digest_is = b.0; prints = a.1 ∙ ap (λ xs. book_line name ++ 10 ∷ xs) b.1 }

front_apart : (text name digest rest n d t : List ℕ) → IsFront text name digest rest → IsName n → IsDigest d → text ≡ front_text n d t → rest ≡ t
front_apart text name digest rest n d t f p q e =
    let first = (cut_apart 10 (book_line name) (book_line n) (digest_line digest ++ 10 ∷ rest) (digest_line d ++ 10 ∷ t) (book_plain name f.name_is) (book_plain n p) (sym f.prints ∙ e)).1 in
    (cut_apart 10 (digest_line digest) (digest_line d) rest t (digest_plain digest f.digest_is) (digest_plain d q) first).1

-- the last two lines
tail_parts : (n : ℕ) → tail_text n ≡ events_line n ++ 10 ∷ codes "end\n"
unfolding ended end_line
tail_parts n = refl

pub no_events : (text : List ℕ) → HeadsNone IsCount events_line text → ReadsNone IsCount tail_text text
no_events text none n is e = none n _ is (e ∙ tail_parts n)

pub no_end : (text rest : List ℕ) (n : ℕ) → Heads IsCount events_line text n rest → ¬ (rest ≡ codes "end\n") → ReadsNone IsCount tail_text text
no_end text rest n head other m is e =
    other (cut_apart 10 (events_line n) (events_line m) rest (codes "end\n") (events_plain n head.0) (events_plain m is) (sym head.1 ∙ e ∙ tail_parts m)).1

pub the_tail : (text rest : List ℕ) (n : ℕ) → Heads IsCount events_line text n rest → rest ≡ codes "end\n" → Reads IsCount tail_text text n
the_tail text rest n head e = (head.0, head.1 ∙ ap (λ xs. events_line n ++ 10 ∷ xs) e ∙ sym (tail_parts n))

-- the included books
pub begun : (text : List ℕ) → text ≡ ended (map include_line []) ++ text
unfolding ended
begun text = refl

ended-more : (book : Included) (books : List Included) (rest : List ℕ)
    → ended (map include_line (book ∷ books)) ++ rest ≡ include_line book ++ 10 ∷ (ended (map include_line books) ++ rest)
ended-more book books rest =
    ap (λ xs. xs ++ rest) (ended-cons (include_line book) (map include_line books)) ∙ append_assoc (include_line book) (10 ∷ ended (map include_line books)) rest

pub read_on : (books : List Included) (book : Included) (rest left : List ℕ) → rest ≡ include_line book ++ 10 ∷ left
    → ended (map include_line books) ++ rest ≡ ended (map include_line (books ++ book ∷ [])) ++ left
read_on [] book rest left e =
    ap (λ xs. ended (map include_line []) ++ xs) e ∙ sym (begun (include_line book ++ 10 ∷ left)) ∙ ap (λ xs. include_line book ++ 10 ∷ xs) (begun left) ∙ sym (ended-more book [] left)
read_on (b ∷ bs) book rest left e =
    ended-more b bs rest ∙ ap (λ xs. include_line b ++ 10 ∷ xs) (read_on bs book rest left e) ∙ sym (ended-more b (bs ++ book ∷ []) left)

pub include_read : (text : List ℕ) (books : List Included) (rest : List ℕ) (book item : Included) (left : List ℕ) (now : List Included)
    → Each IsIncluded books × (text ≡ ended (map include_line books) ++ rest) → Heads IsIncluded include_line rest book left → item ≡ book → now ≡ books ++ item ∷ []
    → Each IsIncluded now × (text ≡ ended (map include_line now) ++ left)
include_read text books rest book item left now done head e f =
    let all : now ≡ books ++ book ∷ [] = f ∙ ap (λ x. books ++ x ∷ []) e in
    rw all (each-append IsIncluded books (book ∷ []) done.0 (head.0, tt), done.1 ∙ read_on books book rest left head.1)

-- an included book's line doesn't begin the last two lines
not_tail : (book : Included) (n : ℕ) (rest : List ℕ) → IsIncluded book → IsCount n → ¬ (include_line book ++ 10 ∷ rest ≡ tail_text n)
not_tail book n rest p q e =
    include_not_events book n (cut_apart 10 (include_line book) (events_line n) rest (codes "end\n") (include_plain book p) (events_plain n q) (e ∙ tail_parts n)).0

includes_apart : (xs ys : List Included) (rest : List ℕ) (n : ℕ) → Each IsIncluded xs → Each IsIncluded ys → HeadsNone IsIncluded include_line rest → IsCount n
    → ended (map include_line xs) ++ rest ≡ ended (map include_line ys) ++ tail_text n → rest ≡ tail_text n
includes_apart [] [] rest n p q none is e = begun rest ∙ e ∙ sym (begun (tail_text n))
includes_apart [] (y ∷ ys) rest n p q none is e = absurd (none y _ q.0 (begun rest ∙ e ∙ ended-more y ys (tail_text n)))
includes_apart (x ∷ xs) [] rest n p q none is e =
    absurd (not_tail x n (ended (map include_line xs) ++ rest) p.0 is (sym (ended-more x xs rest) ∙ e ∙ sym (begun (tail_text n))))
includes_apart (x ∷ xs) (y ∷ ys) rest n p q none is e =
    let behind = (cut_apart 10 (include_line x) (include_line y) (ended (map include_line xs) ++ rest) (ended (map include_line ys) ++ tail_text n)
    (include_plain x p.0) (include_plain y q.0) (sym (ended-more x xs rest) ∙ e ∙ ended-more y ys (tail_text n))).1 in
    includes_apart xs ys rest n p.1 q.1 none is behind

-- all that stands behind the first line
body_parts : (c : Cert) → body_text c ≡ front_text c.book.0 c.digest (ended (map include_line c.includes) ++ tail_text c.events)
body_parts c =
    ended-cons (book_line c.book.0) _
    ∙ ap (λ xs. book_line c.book.0 ++ 10 ∷ xs)
    (ended-cons (digest_line c.digest) _ ∙ ap (λ xs. digest_line c.digest ++ 10 ∷ xs) (ended-append (map include_line c.includes) (events_line c.events ∷ end_line ∷ [])))

pub no_front : (text : List ℕ) → FrontNone text → ReadsNone WellWritten body_text text
no_front text none c w e = none c.book.0 c.digest _ w.book w.digest (e ∙ body_parts c)

pub no_tail : (text name digest rest : List ℕ) (books : List Included) (left : List ℕ) → IsFront text name digest rest → IsIncludes rest books left → ReadsNone IsCount tail_text left
    → ReadsNone WellWritten body_text text
no_tail text name digest rest books left front includes none c w e =
    let behind = front_apart text name digest rest c.book.0 c.digest (ended (map include_line c.includes) ++ tail_text c.events) front w.book w.digest (e ∙ body_parts c) in
    none c.events w.events (includes_apart books c.includes left c.events includes.each w.includes includes.none w.events (sym includes.prints ∙ behind))

pub the_body : (text name digest rest : List ℕ) (books : List Included) (left : List ℕ) (n : ℕ) → IsFront text name digest rest → IsIncludes rest books left → Reads IsCount tail_text left n
    → Reads WellWritten body_text text (cert_with name digest books n)
the_body text name digest rest books left n front includes tail = (
  record { book = front.name_is; digest = front.digest_is; includes = includes.each; events = tail.0 },
  front.prints ∙ ap (λ xs. front_text name digest xs) (includes.prints ∙ ap (λ xs. ended (map include_line books) ++ xs) tail.1) ∙ sym (body_parts (cert_with name digest books n)),
)
