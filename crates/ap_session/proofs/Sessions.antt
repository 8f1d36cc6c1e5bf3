-- The books of a session, one after another.
use Rattle.std.proofs.Common.{◌≡◌, ◌≢◌, ◌∙◌, ◌⊎◌, ◌≤◌, ◌<◌, ℕ, zero, suc, Bool, true, false, ◌&&◌, List, [], ◌∷◌, ◌++◌, length, get_or, take, map, Option, Some, None, refl, ap, sym, subst, inl, inr, arith}
use Rattle.std.proofs.Math.Seq.{take-append_seam}
use Rattle.std.proofs.lemmas.List.{append-nil}
use Rattle.std.specs.Prelude.{IfSome}
use Rattle.ap_outside.specs.declared.fault.WriteFault.{WriteFault as SinkFault}
use Rattle.ap_outside.specs.declared.fault.WriteFault.TheVariants as sink_faults
use Rattle.ap_outside.specs.declared.library.BookRead.{BookRead}
use Rattle.ap_outside.specs.Files.{Files, told_at}
use Rattle.ap_outside.specs.Books.{answer_of}
use Rattle.ap_outside.specs.Gains.{Gained, GainedPart}
use Rattle.ap_outside.proofs.Gains.{gained_nothing, gained_more, gained_to, part_first, part_next, part_all, part_to}
use Rattle.ap_outside.specs.Faults.{Rose}
use Rattle.ap_books.specs.declared.admitter.BookSeen.{BookSeen}
use Rattle.ap_books.specs.Bodies.{Body}
use Rattle.ap_books.specs.Texts.{closing}
use Rattle.ap_plain.specs.declared.limits.Limits.{Limits}
use Rattle.ap_table.specs.declared.link.DropNote.{DropNote}
use Rattle.ap_plain.specs.Ends.{Told, walks_in}
use Rattle.ap_plain.specs.Drops.{DividedWalks}
use Rattle.ap_world.specs.World.{Shown}
use Rattle.ap_session.specs.declared.fault.Fault.{Fault}
use Rattle.ap_session.specs.declared.fault.Fault.TheVariants as faults
use Rattle.ap_session.specs.declared.report.Status.TheVariants.{ReadFault, WriteFault}
use Rattle.ap_session.specs.Acts.{put, put_by, stored_by, Outside, Acted, GainedLess, Tied}
use Rattle.ap_session.specs.Certs.{Seen, seen_in, files_by}
use Rattle.ap_session.specs.Command.{Command, Order, of_books, of_demo}
use Rattle.ap_session.specs.Storing.{Stored, StoredPart}
use Rattle.ap_session.proofs.Storing.{stored_none, stored_more, part_all as files_all, part_next as files_next, AreCerts, book_stays}
use Rattle.ap_session.specs.Working.{Working, start}
use Rattle.ap_session.specs.Admitting.{AdmittingSeen, notes_in, left_in, IsTold, Led}
use Rattle.ap_session.proofs.Acting.{put_more, stored_by_more, stored_end, book_puts, Later, tied_first, tied_next, tied_all, tied_by, tied_put}
use Rattle.ap_session.specs.Texts.{usage_text}
use Rattle.ap_session.specs.Session.{Session, ActsAgree, acts_of, begun, read_body, book_text, book_acts, demo_session, kept_more, last_of, with_body, then_book, books_of, reads_in, worked_books, Worked, Kept, PassedThrough, IsNext, Listed, file_name, session, traced, output, written_fault, fault_status, is_done}
use Rattle.ap_plain.proofs.Telling.{notes_more, notes_none, told_left, told_right}

none_read : (limits : Limits) (s : Session) (names : List (List ℕ)) → books_of limits s names [] ≡ s
none_read limits s [] = refl
none_read limits s (n ∷ ns) = refl

-- one book more
then_one : (limits : Limits) (s : Session) (names : List (List ℕ)) (books : List BookSeen) (name : List ℕ) (book : BookSeen)
    → length books < length names → name ≡ get_or names (length books) name
    → books_of limits s names (reads_in (books ++ book ∷ [])) ≡ then_book limits (books_of limits s names (reads_in books)) name book.read
then_one limits s [] books name book h is = absurd (omega arith)
then_one limits s (n ∷ ns) [] name book h is =
    none_read limits (then_book limits s n book.read) ns ∙ ap (λ m. then_book limits s m book.read) (sym is)
then_one limits s (n ∷ ns) (b ∷ bs) name book h is = then_one limits (then_book limits s n b.read) ns bs name book (omega arith) is

next_listed : (files : Option Files) (names : List (List ℕ)) (books : List BookSeen) (name : List ℕ) (book : BookSeen)
    → length books < length names → name ≡ get_or names (length books) name → Listed files names books
    → book.name.0 ≡ name → IfSome (told_at files (file_name name)) (λ found. book.read ≡ answer_of found)
    → Listed files names (books ++ book ∷ [])
next_listed files [] books name book h is l e t = absurd (omega arith)
next_listed files (n ∷ ns) [] name book h is l e t = (e ∙ is, subst (λ m. IfSome (told_at files (file_name m)) (λ found. book.read ≡ answer_of found)) is t, tt)
next_listed files (n ∷ ns) (b ∷ bs) name book h is l e t = (l.0, l.1, next_listed files ns bs name book (omega arith) is l.2 e t)

-- the names of the books that are listed, where they are as many as the words name
pub all_listed : (files : Option Files) (names : List (List ℕ)) (books : List BookSeen) → length names ≤ length books → Listed files names books → map (λ b. b.name.0) books ≡ names
all_listed files [] [] h l = refl
all_listed files (n ∷ ns) [] h l = absurd (omega arith)
all_listed files [] (b ∷ bs) h l = absurd l
all_listed files (n ∷ ns) (b ∷ bs) h l =
    ap (λ m. m ∷ map (λ c. c.name.0) bs) l.0 ∙ ap (λ ms. n ∷ ms) (all_listed files ns bs (omega arith) l.2)

-- the last of a list
pub last_one : (books : List BookSeen) (book d : BookSeen) → get_or (books ++ book ∷ []) (length books) d ≡ book
last_one [] book d = refl
last_one (b ∷ bs) book d = last_one bs book d

-- the book that was listed last
pub indexed : (files : Option Files) (name : List ℕ) (books new : List BookSeen) (next : IsNext files name books new) (now : List BookSeen) (i : ℕ) (book : BookSeen)
    → now ≡ new → i ≡ length books → book ≡ get_or now i book → book ≡ next.book
indexed files name books new next now i book e k is =
    is ∙ ap (λ xs. get_or xs i book) (e ∙ next.listed) ∙ ap (λ j. get_or (books ++ next.book ∷ []) j book) k ∙ last_one books next.book book

-- and those before it
pub fronted : (files : Option Files) (name : List ℕ) (books new : List BookSeen) (next : IsNext files name books new) (now : List BookSeen) (i : ℕ) → now ≡ new → i ≡ length books → take i now ≡ books
fronted files name books new next now i e k = ap (take i) (e ∙ next.listed) ∙ ap (λ j. take j (books ++ next.book ∷ [])) k ∙ take-append_seam books (next.book ∷ [])

-- the book that is worked next of those that are named, and those before it
pub record NextBook (lib : Option Files) (names : List (List ℕ)) (name : List ℕ) (books new front : List BookSeen) (book : BookSeen) : Type 0 where
  pub few : length books < length names
  pub at : name ≡ get_or names (length books) name
  pub next : IsNext lib name books new
  pub same : book ≡ next.book
  pub before : front ≡ books

-- a name of the words at its place
pub named_at : {A : Type 0} (f : A → List ℕ) (xs : List A) (i : ℕ) (x : A) → i < length xs → x ≡ get_or xs i x → f x ≡ get_or (map f xs) i (f x)
named_at f [] i x h is = absurd (omega arith)
named_at f (y ∷ ys) zero x h is = ap f is
named_at f (y ∷ ys) (suc i) x h is = named_at f ys i x (omega arith) is

pub named_length : {A : Type 0} (f : A → List ℕ) (xs : List A) → length (map f xs) ≡ length xs
named_length f [] = refl
named_length f (x ∷ xs) = ap suc (named_length f xs)

-- what a session stores are certificates
certs_more : (fs gs : Files) → AreCerts fs → AreCerts gs → AreCerts (fs ++ gs)
certs_more [] gs h k = k
certs_more (f ∷ fs) gs h k = (h.0, certs_more fs gs h.1 k)

certs_by : (seen : Seen) (name : List ℕ) (read : BookRead) (certified : Bool) → AreCerts (files_by seen name read certified)
certs_by seen name read true = ((name, refl), tt)
certs_by seen name read false = tt

books_certs : (limits : Limits) (s : Session) (names : List (List ℕ)) (reads : List BookRead) → AreCerts s.files → AreCerts (books_of limits s names reads).files
books_certs limits s [] reads h = h
books_certs limits s (n ∷ ns) [] h = h
books_certs limits s (n ∷ ns) (r ∷ rs) h =
    let good = (read_body limits s.earlier r).certified in
    books_certs limits (then_book limits s n r) ns rs (certs_more s.files (files_by s.seen n r good) h (certs_by s.seen n r good))

pub worked_certs : (a : AdmittingSeen) (names : List (List ℕ)) (books : List BookSeen) → AreCerts (worked_books a names books).files
worked_certs a names books = books_certs a.working.limits begun names (reads_in books) tt

-- what a session's acts put is its text, and what they store are its certificates

acts_then : (s : Session) (name : List ℕ) (read : BookRead) (b : Body Working Told) → ActsAgree s → ActsAgree (with_body s name read b)
acts_then s name read b h =
    let acts = book_acts s.seen name read b in
    let files = files_by s.seen name read b.certified in (
      put_more s.acts acts ∙ ap (λ t. t ++ put_by acts) h.0 ∙ ap (λ t. s.text ++ t) (book_puts s.seen name read b),
      stored_by_more s.acts acts ∙ ap (λ fs. fs ++ stored_by acts) h.1 ∙ ap (λ fs. s.files ++ fs) (stored_end files (closing name b.certified)),
    )

books_agree : (limits : Limits) (s : Session) (names : List (List ℕ)) (reads : List BookRead) → ActsAgree s → ActsAgree (books_of limits s names reads)
books_agree limits s [] reads h = h
books_agree limits s (n ∷ ns) [] h = h
books_agree limits s (n ∷ ns) (r ∷ rs) h =
    let body = read_body limits s.earlier r in
    books_agree limits (with_body s n r body) ns rs (acts_then s n r body h)

pub session_agrees : (c : Option Command) (reads : List BookRead) → ActsAgree (session c reads)
session_agrees None reads = (append-nil usage_text, refl)
session_agrees (Some (of_books o)) reads = books_agree o.limits begun o.books reads (refl, refl)
session_agrees (Some (of_demo d)) reads = (append-nil (demo_session d).text, refl)

-- so books that were worked were acted
pub worked_acted : (from now : Outside) (lib : Option Files) (names : List (List ℕ)) (a b : AdmittingSeen) (books : List BookSeen) (all : Bool)
    → Worked from.content now.content from.files lib (worked_books a names books) all b → now.files ≡ lib → Acted from now (worked_books a names books).acts
worked_acted from now lib names a b books all w same =
    let s = worked_books a names books in
    let k = books_agree a.working.limits begun names (reads_in books) (refl, refl) in
    record {
      text = gained_to from.content now.content s.text (put_by s.acts) w.text (sym k.0);
      files = subst (λ fs. Stored from.files now.files fs) (sym k.1) (subst (λ o. Stored from.files o s.files) (sym same) w.files);
    }

-- the books so far
pub record SoFar (from now : Option (List ℕ)) (files lib : Option Files) (names : List (List ℕ)) (a b : AdmittingSeen) (books : List BookSeen) (all : Bool) : Type 0 where
  pub worked : Worked from now files lib (worked_books a names books) all b
  pub kept : Kept (worked_books a names books) a b
  pub limits : b.working.limits ≡ a.working.limits
  pub workers : b.workers ≡ a.workers
  pub listed : Listed files names books
  pub seen : (worked_books a names books).seen ≡ seen_in books

-- no book
pub so_far_none : (from : Option (List ℕ)) (files : Option Files) (names : List (List ℕ)) (a : AdmittingSeen) → left_in a ≡ start → a.working.earlier ≡ [] → notes_in a ≡ [] → SoFar from from files files names a a [] true
so_far_none from files names a w k n =
    let is = sym (none_read a.working.limits begun names) in
    record {
      worked = subst (λ s. Worked from from files files s true a) is (record { text = gained_nothing from; files = stored_none files files refl; certified = refl; earlier = sym k; last = sym w });
      kept = subst (λ s. Kept s a a) is (record { passed = inl w; drops = n; alone = λ one. n });
      limits = refl;
      workers = refl;
      listed = tt;
      seen = ap (λ (s : Session). s.seen) (sym is);
    }

-- the session with one book more
then_listed : (a : AdmittingSeen) (names : List (List ℕ)) (books : List BookSeen) (name : List ℕ) (book : BookSeen)
    → length books < length names → name ≡ get_or names (length books) name → book.name.0 ≡ name
    → worked_books a names (books ++ book ∷ []) ≡ then_book a.working.limits (worked_books a names books) book.name.0 book.read
then_listed a names books name book h is e =
    then_one a.working.limits begun names books name book h is ∙ ap (λ n. then_book a.working.limits (worked_books a names books) n book.read) (sym e)

-- the body of a book, as it was worked and as the session has it
body_same : (s : Session) (a b : AdmittingSeen) (read : BookRead) → b.working.limits ≡ a.working.limits → s.earlier ≡ b.working.earlier → read_body b.working.limits b.working.earlier read ≡ read_body a.working.limits s.earlier read
body_same s a b read e k = ap (λ m. read_body m b.working.earlier read) e ∙ ap (λ ks. read_body a.working.limits ks read) (sym k)

-- what is kept over one book
then_kept : (s : Session) (a b c : AdmittingSeen) (name : List ℕ) (read : BookRead) (body : Body Working Told) → b.workers ≡ a.workers → Kept s a b → Led b c body.log → Kept (with_body s name read body) a c
then_kept s a b c name read body w k led = record {
  passed = to k.passed led.left;
  drops = subst (λ ns. DividedWalks ns (walks_in (s.told ++ log))) (sym led.notes.behind)
      (notes_more (notes_in b) led.notes.more s.told log k.drops led.notes.divided);
  alone = λ one. led.notes.behind ∙ none one;
}
  where
    log : List Told
    log = body.log

    none : a.workers ≤ 1 → notes_in b ++ led.notes.more ≡ []
    none one =
        let p : notes_in b ≡ [] = k.alone one in
        let q : led.notes.more ≡ [] = led.notes.alone (subst (λ n. n ≤ 1) (sym w) one) in
        rw (p, q) refl

    to : PassedThrough s (left_in b) → (left_in c ≡ left_in b) ⊎ ((left_in c ≡ start) ⊎ IsTold log (left_in c)) → (left_in c ≡ start) ⊎ IsTold (s.told ++ log) (left_in c)
    to p (inr (inl q)) = inl q
    to p (inr (inr q)) = inr (told_right s.told log (left_in c) q)
    to (inl p) (inl q) = inl (q ∙ p)
    to (inr p) (inl q) = inr (subst (λ v. IsTold (s.told ++ log) v) (sym q) (told_left s.told log (left_in b) p))

-- a book that was read, as the library told it at the start
told_first : (files lib : Option Files) (fs : Files) (name : List ℕ) (read : BookRead) → Stored files lib fs → AreCerts fs → IfSome (told_at lib (file_name name)) (λ found. read ≡ answer_of found)
    → IfSome (told_at files (file_name name)) (λ found. read ≡ answer_of found)
told_first files lib fs name read stored certs h = subst (λ (o : Option (Option (List ℕ))). IfSome o (λ found. read ≡ answer_of found)) (book_stays files lib fs name stored certs) h

seen_more : (books : List BookSeen) (book : BookSeen) → seen_in books ++ (book.name.0, book.read) ∷ [] ≡ seen_in (books ++ book ∷ [])
seen_more [] book = refl
seen_more (b ∷ bs) book = ap (λ xs. (b.name.0, b.read) ∷ xs) (seen_more bs book)

-- a book that was worked whole
pub so_far_more : (from mid now : Option (List ℕ)) (files lib end : Option Files) (names : List (List ℕ)) (a b c : AdmittingSeen) (books new : List BookSeen) (all good : Bool) (name : List ℕ) (book : BookSeen)
    → length books < length names → name ≡ get_or names (length books) name → (next : IsNext lib name books new) → book ≡ next.book
    → SoFar from mid files lib names a b books all → (body : Body Working Told) → read_body b.working.limits b.working.earlier book.read ≡ body
    → Gained mid now (book_text book.name.0 body) → Stored lib end (files_by (seen_in books) book.name.0 book.read body.certified) → body.certified ≡ good
    → kept_more b.working.earlier book.name.0 body ≡ c.working.earlier → last_of body ≡ left_in c → Led b c body.log → SoFar from now files end names a c new (all && good)
so_far_more from mid now files lib end names a b c books new all good name book h is next same so body made gained stored certified earlier last led =
    let named = ap (λ (k : BookSeen). k.name.0) same ∙ next.named in
    let s = worked_books a names books in
    let list : new ≡ books ++ book ∷ [] = next.listed ∙ ap (λ k. books ++ k ∷ []) (sym same) in
    let to : worked_books a names new ≡ with_body s book.name.0 book.read body =
    ap (worked_books a names) list ∙ then_listed a names books name book h is named ∙ ap (with_body s book.name.0 book.read) (sym (body_same s a b book.read so.limits so.worked.earlier) ∙ made) in
    let mine = subst (λ ks. Stored lib end (files_by ks book.name.0 book.read body.certified)) (sym so.seen) stored in
    record {
      worked = subst (λ t. Worked from now files end t (all && good) c) (sym to) (record {
        text = gained_more from mid now s.text (book_text book.name.0 body) so.worked.text gained;
        files = stored_more files lib end s.files (files_by s.seen book.name.0 book.read body.certified) so.worked.files mine;
        certified = both so.worked.certified certified;
        earlier = ap (λ ks. kept_more ks book.name.0 body) so.worked.earlier ∙ earlier;
        last = last;
      });
      kept = subst (λ t. Kept t a c) (sym to) (then_kept s a b c book.name.0 book.read body so.workers so.kept led);
      limits = led.limits ∙ so.limits;
      workers = led.notes.workers ∙ so.workers;
      listed = subst (λ l. Listed files names l) (sym list)
          (next_listed files names books name book h is so.listed named
          (subst (λ (k : BookSeen). IfSome (told_at files (file_name name)) (λ found. k.read ≡ answer_of found)) (sym same) (told_first files lib s.files name next.book.read so.worked.files (worked_certs a names books) next.told)));
      seen = ap (λ (t : Session). t.seen) to ∙ ap (λ ks. ks ++ (book.name.0, book.read) ∷ []) so.seen ∙ seen_more books book ∙ ap seen_in (sym list);
    }
  where
    both : {p q r t : Bool} → p ≡ r → q ≡ t → (p && q) ≡ (r && t)
    both e f = cc

-- where a fault cut it off
pub record CutOff (from now : Option (List ℕ)) (files end : Option Files) (names : List (List ℕ)) (a c : AdmittingSeen) (books : List BookSeen) : Type 0 where
  pub part : GainedPart from now (worked_books a names books).text
  pub stored : StoredPart files end (worked_books a names books).files
  pub kept : Kept (worked_books a names books) a c
  pub listed : Listed files names books

-- within a book
pub cut_within : (from mid now : Option (List ℕ)) (files lib end : Option Files) (names : List (List ℕ)) (a b c : AdmittingSeen) (books new : List BookSeen) (all : Bool) (name : List ℕ) (book : BookSeen)
    → length books < length names → name ≡ get_or names (length books) name → (next : IsNext lib name books new) → book ≡ next.book
    → SoFar from mid files lib names a b books all → (body : Body Working Told) → read_body b.working.limits b.working.earlier book.read ≡ body
    → GainedPart mid now (book_text book.name.0 body) → StoredPart lib end (files_by (seen_in books) book.name.0 book.read body.certified) → Led b c body.log → CutOff from now files end names a c new
cut_within from mid now files lib end names a b c books new all name book h is next same so body made part stored led =
    let named = ap (λ (k : BookSeen). k.name.0) same ∙ next.named in
    let s = worked_books a names books in
    let list : new ≡ books ++ book ∷ [] = next.listed ∙ ap (λ k. books ++ k ∷ []) (sym same) in
    let to : worked_books a names new ≡ with_body s book.name.0 book.read body =
    ap (worked_books a names) list ∙ then_listed a names books name book h is named ∙ ap (with_body s book.name.0 book.read) (sym (body_same s a b book.read so.limits so.worked.earlier) ∙ made) in
    let mine = subst (λ ks. StoredPart lib end (files_by ks book.name.0 book.read body.certified)) (sym so.seen) stored in
    record {
      part = subst (λ (t : Session). GainedPart from now t.text) (sym to) (part_next from mid now s.text (book_text book.name.0 body) so.worked.text part);
      stored = subst (λ (t : Session). StoredPart files end t.files) (sym to) (files_next files lib end s.files (files_by s.seen book.name.0 book.read body.certified) so.worked.files mine);
      kept = subst (λ t. Kept t a c) (sym to) (then_kept s a b c book.name.0 book.read body so.workers so.kept led);
      listed = subst (λ l. Listed files names l) (sym list)
          (next_listed files names books name book h is so.listed named
          (subst (λ (k : BookSeen). IfSome (told_at files (file_name name)) (λ found. k.read ≡ answer_of found)) (sym same) (told_first files lib s.files name next.book.read so.worked.files (worked_certs a names books) next.told)));
    }

-- between two books
pub cut_between : (from now : Option (List ℕ)) (files lib end : Option Files) (names : List (List ℕ)) (a b : AdmittingSeen) (books new : List BookSeen) (all : Bool)
    → new ≡ books → end ≡ lib → SoFar from now files lib names a b books all → CutOff from now files end names a b new
cut_between from now files lib end names a b books new all e f so =
    subst (λ l. CutOff from now files end names a b l) (sym e) (record {
      part = part_all from now (worked_books a names books).text so.worked.text;
      stored = files_all files end (worked_books a names books).files (subst (λ fs. Stored files fs (worked_books a names books).files) (sym f) so.worked.files);
      kept = so.kept;
      listed = so.listed;
    })

-- and its acts with it: within a book
pub tied_within : (from mid now : Outside) (lib : Option Files) (names : List (List ℕ)) (a b : AdmittingSeen) (books new : List BookSeen) (all : Bool) (name : List ℕ) (book : BookSeen) (failed : Type 0)
    → length books < length names → name ≡ get_or names (length books) name → (next : IsNext lib name books new) → book ≡ next.book
    → SoFar from.content mid.content from.files lib names a b books all → mid.files ≡ lib → Later from mid → Later mid now
    → Tied mid now failed (book_acts (seen_in books) book.name.0 book.read (read_body b.working.limits b.working.earlier book.read)) → Tied from now failed (worked_books a names new).acts
tied_within from mid now lib names a b books new all name book failed h is next same so stay before after tied =
    let named = ap (λ (k : BookSeen). k.name.0) same ∙ next.named in
    let s = worked_books a names books in
    let body = read_body b.working.limits b.working.earlier book.read in
    let list : new ≡ books ++ book ∷ [] = next.listed ∙ ap (λ k. books ++ k ∷ []) (sym same) in
    let to : worked_books a names new ≡ with_body s book.name.0 book.read body =
    ap (worked_books a names) list ∙ then_listed a names books name book h is named ∙ ap (with_body s book.name.0 book.read) (sym (body_same s a b book.read so.limits so.worked.earlier)) in
    subst (λ (t : Session). Tied from now failed t.acts) (sym to)
    (tied_next from mid now failed s.acts (book_acts s.seen book.name.0 book.read body) before after (worked_acted from mid lib names a b books all so.worked stay)
    (subst (λ (ks : Seen). Tied mid now failed (book_acts ks book.name.0 book.read body)) (sym so.seen) tied))

-- between two books
pub tied_between : (from now : Outside) (lib : Option Files) (names : List (List ℕ)) (a b : AdmittingSeen) (books new : List BookSeen) (all : Bool) (failed : Type 0)
    → ¬ failed → new ≡ books → SoFar from.content now.content from.files lib names a b books all → now.files ≡ lib → Tied from now failed (worked_books a names new).acts
tied_between from now lib names a b books new all failed none e so stay =
    subst (λ l. Tied from now failed (worked_books a names l).acts) (sym e)
    (tied_all from now failed (worked_books a names books).acts none (worked_acted from now lib names a b books all so.worked stay))

-- the session of a command, by what was worked
command_session : (c : Order) (a : AdmittingSeen) (books new : List BookSeen) → a.working.limits ≡ c.limits → new ≡ books
    → worked_books a c.books books ≡ session (Some (of_books c)) (reads_in new)
command_session c a books new l e =
    ap (λ m. books_of m begun c.books (reads_in books)) l ∙ ap (λ bs. books_of c.limits begun c.books (reads_in bs)) (sym e)

pub command_text : (from mid now : Option (List ℕ)) (c : Order) (a : AdmittingSeen) (books new : List BookSeen) (drops : List DropNote) → a.working.limits ≡ c.limits → new ≡ books
    → Gained from mid (worked_books a c.books books).text → Gained mid now (traced (Some (of_books c)) drops) → Gained from now (output (Some (of_books c)) (session (Some (of_books c)) (reads_in new)) drops)
command_text from mid now c a books new drops l e gained told =
    subst (λ (s : Session). Gained from now (output (Some (of_books c)) s drops)) (command_session c a books new l e)
    (gained_more from mid now (worked_books a c.books books).text (traced (Some (of_books c)) drops) gained told)

pub command_part : (from mid now : Option (List ℕ)) (c : Order) (a : AdmittingSeen) (books new : List BookSeen) (drops : List DropNote) → a.working.limits ≡ c.limits → new ≡ books
    → Gained from mid (worked_books a c.books books).text → GainedPart mid now (traced (Some (of_books c)) drops) → GainedPart from now (output (Some (of_books c)) (session (Some (of_books c)) (reads_in new)) drops)
command_part from mid now c a books new drops l e gained part =
    subst (λ (s : Session). GainedPart from now (output (Some (of_books c)) s drops)) (command_session c a books new l e)
    (part_next from mid now (worked_books a c.books books).text (traced (Some (of_books c)) drops) gained part)

pub command_cut : (from now : Option (List ℕ)) (c : Order) (a : AdmittingSeen) (books new : List BookSeen) (drops : List DropNote) → a.working.limits ≡ c.limits → new ≡ books
    → GainedPart from now (worked_books a c.books books).text → GainedPart from now (output (Some (of_books c)) (session (Some (of_books c)) (reads_in new)) drops)
command_cut from now c a books new drops l e part =
    subst (λ (s : Session). GainedPart from now (output (Some (of_books c)) s drops)) (command_session c a books new l e)
    (part_first from now (worked_books a c.books books).text (traced (Some (of_books c)) drops) part)

pub command_whole : (from now : Option (List ℕ)) (c : Order) (a : AdmittingSeen) (books new : List BookSeen) → a.working.limits ≡ c.limits → new ≡ books
    → Gained from now (worked_books a c.books books).text → Gained from now (session (Some (of_books c)) (reads_in new)).text
command_whole from now c a books new l e gained = subst (λ (s : Session). Gained from now s.text) (command_session c a books new l e) gained

-- what a session tells of drops: all that was noted, or nothing
pub command_drops : (c : Order) (a b : AdmittingSeen) (books new : List BookSeen) (drops : List DropNote) → a.working.limits ≡ c.limits → new ≡ books
    → DividedWalks (notes_in b) (walks_in (worked_books a c.books books).told) → (drops ≡ notes_in b) ⊎ (drops ≡ []) → DividedWalks drops (walks_in (session (Some (of_books c)) (reads_in new)).told)
command_drops c a b books new drops l e h k = subst (λ (s : Session). DividedWalks drops (walks_in s.told)) (command_session c a books new l e) (go k)
  where
    go : (drops ≡ notes_in b) ⊎ (drops ≡ []) → DividedWalks drops (walks_in (worked_books a c.books books).told)
    go (inl p) = subst (λ ns. DividedWalks ns (walks_in (worked_books a c.books books).told)) (sym p) h
    go (inr p) = subst (λ ns. DividedWalks ns (walks_in (worked_books a c.books books).told)) (sym p) (notes_none (worked_books a c.books books).told)

-- a fault of reading alone gives its status
pub only_read : (fault : Fault) → fault_status fault ≡ ReadFault → fault ≡ faults.Read
only_read faults.Read e = refl
only_read faults.Write e = absurd cc
only_read faults.NoMemory e = absurd cc

pub only_write : (fault : Fault) → fault_status fault ≡ WriteFault → fault ≡ faults.Write
only_write faults.Read e = absurd cc
only_write faults.Write e = refl
only_write faults.NoMemory e = absurd cc

-- and one of a put or a store
pub only_failed : (f : SinkFault) → written_fault f ≡ faults.Write → f ≡ sink_faults.Failed
only_failed sink_faults.Failed e = refl
only_failed sink_faults.NoMemory e = absurd cc

pub never_read : (f : SinkFault) → written_fault f ≢ faults.Read
never_read sink_faults.Failed e = absurd cc
never_read sink_faults.NoMemory e = absurd cc

-- by a fault no session ends by itself
pub not_done : (fault : Fault) → is_done (fault_status fault) ≡ false
not_done faults.Read = refl
not_done faults.Write = refl
not_done faults.NoMemory = refl

-- the world that a session was left in
pub command_passed : (c : Order) (a : AdmittingSeen) (books new : List BookSeen) (w v : Shown) → a.working.limits ≡ c.limits → new ≡ books → v ≡ w
    → PassedThrough (worked_books a c.books books) w → PassedThrough (session (Some (of_books c)) (reads_in new)) v
command_passed c a books new w v l e same h =
    subst (λ (s : Session). PassedThrough s v) (command_session c a books new l e) (subst (PassedThrough (worked_books a c.books books)) (sym same) h)

-- the certificates of a session
pub command_files : (files lib end : Option Files) (c : Order) (a : AdmittingSeen) (books new : List BookSeen) → a.working.limits ≡ c.limits → new ≡ books → end ≡ lib
    → Stored files lib (worked_books a c.books books).files → Stored files end (session (Some (of_books c)) (reads_in new)).files
command_files files lib end c a books new l e f h =
    subst (λ (s : Session). Stored files end s.files) (command_session c a books new l e) (subst (λ fs. Stored files fs (worked_books a c.books books).files) (sym f) h)

pub command_stored : (files lib end : Option Files) (c : Order) (a : AdmittingSeen) (books new : List BookSeen) → a.working.limits ≡ c.limits → new ≡ books → end ≡ lib
    → StoredPart files lib (worked_books a c.books books).files → StoredPart files end (session (Some (of_books c)) (reads_in new)).files
command_stored files lib end c a books new l e f h =
    subst (λ (s : Session). StoredPart files end s.files) (command_session c a books new l e) (subst (λ fs. StoredPart files fs (worked_books a c.books books).files) (sym f) h)

-- its acts, cut off within the books
pub command_tied : (from now : Outside) (failed other : Type 0) (c : Order) (a : AdmittingSeen) (books new : List BookSeen) (drops : List DropNote) → a.working.limits ≡ c.limits → new ≡ books
    → (other → failed) → Tied from now failed (worked_books a c.books books).acts → Tied from now other (acts_of (Some (of_books c)) (session (Some (of_books c)) (reads_in new)) drops)
command_tied from now failed other c a books new drops l e to h =
    subst (λ (s : Session). Tied from now other (acts_of (Some (of_books c)) s drops)) (command_session c a books new l e)
    (tied_first from now other (worked_books a c.books books).acts (put (traced (Some (of_books c)) drops) ∷ []) (tied_by from now failed other (worked_books a c.books books).acts to h))

-- and behind them, at what tells of drops
pub command_traced : (from mid now : Outside) (failed : Type 0) (c : Order) (a b : AdmittingSeen) (books new : List BookSeen) (drops : List DropNote) (all : Bool) → a.working.limits ≡ c.limits → new ≡ books
    → Later from mid → Later mid now → Worked from.content mid.content from.files mid.files (worked_books a c.books books) all b
    → (failed → Rose mid.puts now.puts) → (failed → GainedLess mid.content now.content (traced (Some (of_books c)) drops)) → GainedPart mid.content now.content (traced (Some (of_books c)) drops) → now.files ≡ mid.files
    → Tied from now failed (acts_of (Some (of_books c)) (session (Some (of_books c)) (reads_in new)) drops)
command_traced from mid now failed c a b books new drops all l e before after worked rose less part stay =
    subst (λ (s : Session). Tied from now failed (acts_of (Some (of_books c)) s drops)) (command_session c a books new l e)
    (tied_next from mid now failed (worked_books a c.books books).acts (put (traced (Some (of_books c)) drops) ∷ []) before after
    (worked_acted from mid mid.files c.books a b books all worked refl)
    (tied_put mid now failed (traced (Some (of_books c)) drops) [] rose less part stay))

-- one text, and no more
pub text_tied : (from now : Outside) (failed : Type 0) (text : List ℕ) → (failed → Rose from.puts now.puts) → (failed → GainedLess from.content now.content text) → GainedPart from.content now.content (text ++ []) → now.files ≡ from.files
    → Tied from now failed (put text ∷ put [] ∷ [])
text_tied from now failed text rose less part stay =
    tied_put from now failed text (put [] ∷ []) rose less (part_to from.content now.content (text ++ []) text part (append-nil text)) stay
