-- How a line is written by its parts.
use Rattle.std.proofs.Common.{◌≡◌, ◌<◌, ◌≤◌, ◌+◌, suc, ℕ, List, [], ◌∷◌, ◌++◌, map, length, get_or, drop, Result, Ok, Err, OnOk, sym, ap, ◌∙◌, add-one, drop-cons}
use mathlib.Core.List.{append_assoc, append-nil}
use Rattle.std.proofs.lemmas.List.{drop_all}
use Rattle.ap_cert.specs.declared.cert.Cert.{Cert}
use Rattle.ap_cert.specs.Cert.{Included, ended, cert_text, head_line, book_line, digest_line, include_line, events_line, end_line}
use Rattle.ap_cert.proofs.Split.{ended-append}

joined : (old front line : List ℕ) → (old ++ front) ++ ended (line ∷ []) ≡ old ++ ended ((front ++ line) ∷ [])
unfolding ended
joined old front line = append_assoc old front (line ++ 10 ∷ []) ∙ ap (λ xs. old ++ xs) (sym (append_assoc front line (10 ∷ [])))

-- a line whose front is there, and whose rest is put
pub line_after : {T E : Type 0} (r : Result T E) (old front mid line whole now : List ℕ) → mid ≡ old ++ front → whole ≡ front ++ line → OnOk r (now ≡ mid ++ ended (line ∷ []))
    → OnOk r (now ≡ old ++ ended (whole ∷ []))
line_after (Ok x) old front mid line whole now e f h =
    h ∙ ap (λ xs. xs ++ ended (line ∷ [])) e ∙ joined old front line ∙ ap (λ xs. old ++ ended (xs ∷ [])) (sym f)
line_after (Err x) old front mid line whole now e f h = tt

-- a name, a blank and digits
pub three_fronts : (old front name a b mid : List ℕ) (byte : ℕ) → a ≡ old ++ front → b ≡ a ++ name → mid ≡ b ++ byte ∷ [] → mid ≡ old ++ (front ++ (name ++ byte ∷ []))
three_fronts old front name a b mid byte e f g =
    g ∙ ap (λ xs. xs ++ byte ∷ []) (f ∙ ap (λ xs. xs ++ name) e) ∙ append_assoc (old ++ front) name (byte ∷ []) ∙ append_assoc old front (name ++ byte ∷ [])

pub three_parts : (front name line : List ℕ) (byte : ℕ) → front ++ (name ++ byte ∷ line) ≡ (front ++ (name ++ byte ∷ [])) ++ line
three_parts front name line byte =
    ap (λ xs. front ++ xs) (sym (append_assoc name (byte ∷ []) line)) ∙ sym (append_assoc front (name ++ byte ∷ []) line)

-- one more line is put, and all of them
pub one_more : (books : List Included) (i : ℕ) (book : Included) (text now whole : List ℕ) → i < length books → book ≡ get_or books i book → now ≡ text ++ ended (include_line book ∷ [])
    → text ++ ended (map include_line (drop i books)) ≡ whole → now ++ ended (map include_line (drop (i + 1) books)) ≡ whole
one_more books i book text now whole h e f inv =
    let split : drop i books ≡ get_or books i book ∷ drop (suc i) books = drop-cons books i book h in
    let found : drop i books ≡ book ∷ drop (i + 1) books = split ∙ ap (λ x. x ∷ drop (suc i) books) (sym e) ∙ ap (λ n. book ∷ drop n books) (sym (add-one i)) in
    ap (λ xs. xs ++ ended (map include_line (drop (i + 1) books))) f
    ∙ append_assoc text (ended (include_line book ∷ [])) (ended (map include_line (drop (i + 1) books)))
    ∙ ap (λ xs. text ++ xs) (sym (ended-append (include_line book ∷ []) (map include_line (drop (i + 1) books))))
    ∙ ap (λ xs. text ++ ended (map include_line xs)) (sym found)
    ∙ inv

pub all_put : (books : List Included) (i : ℕ) (text whole : List ℕ) → length books ≤ i → text ++ ended (map include_line (drop i books)) ≡ whole → text ≡ whole
unfolding ended
all_put books i text whole h inv =
    sym (append-nil text) ∙ ap (λ xs. text ++ ended (map include_line xs)) (sym (drop_all i books h)) ∙ inv

-- all lines one after the other
pub whole_text : (c : Cert) (t0 t1 t2 t3 t4 t5 t6 : List ℕ) → t0 ≡ [] → t1 ≡ t0 ++ ended (head_line ∷ []) → t2 ≡ t1 ++ ended (book_line c.book.0 ∷ []) → t3 ≡ t2 ++ ended (digest_line c.digest ∷ [])
    → t4 ≡ t3 ++ ended (map include_line c.includes) → t5 ≡ t4 ++ ended (events_line c.events ∷ []) → t6 ≡ t5 ++ ended (end_line ∷ []) → t6 ≡ cert_text c
whole_text c t0 t1 t2 t3 t4 t5 t6 e0 e1 e2 e3 e4 e5 e6 =
    let book = book_line c.book.0 in
    let digest = digest_line c.digest in
    let books = map include_line c.includes in
    let events = events_line c.events in
    let last = events ∷ end_line ∷ [] in
    let a : ended (head_line ∷ book ∷ digest ∷ (books ++ last)) ≡ ended (head_line ∷ []) ++ ended (book ∷ digest ∷ (books ++ last)) = ended-append (head_line ∷ []) (book ∷ digest ∷ (books ++ last)) in
    let b : ended (book ∷ digest ∷ (books ++ last)) ≡ ended (book ∷ []) ++ ended (digest ∷ (books ++ last)) = ended-append (book ∷ []) (digest ∷ (books ++ last)) in
    let d : ended (digest ∷ (books ++ last)) ≡ ended (digest ∷ []) ++ ended (books ++ last) = ended-append (digest ∷ []) (books ++ last) in
    let f : ended (books ++ last) ≡ ended books ++ ended last = ended-append books last in
    let g : ended last ≡ ended (events ∷ []) ++ ended (end_line ∷ []) = ended-append (events ∷ []) (end_line ∷ []) in
    rw (e6, e5, e4, e3, e2, e1, e0, a, b, d, f, g) (simp append_assoc)
