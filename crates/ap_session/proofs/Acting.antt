-- Acts that were done one after another, and where a fault cuts them off.
use Rattle.std.proofs.Common.{◌≡◌, ◌∙◌, ◌≤◌, ℕ, Bool, true, false, List, [], ◌∷◌, ◌++◌, map, Option, Result, Ok, Err, IfErr, refl, ap, sym, subst, inr, append_assoc, arith}
use Rattle.std.proofs.lemmas.List.{append-nil}
use Rattle.ap_outside.specs.Faults.{Rose}
use Rattle.ap_outside.specs.declared.library.BookRead.{BookRead}
use Rattle.ap_outside.specs.Files.{Files}
use Rattle.ap_outside.specs.Gains.{Gained, GainedPart}
use Rattle.ap_outside.proofs.Gains.{gained_nothing, gained_more, gained_to, part_to, rose_within}
use Rattle.ap_books.specs.Bodies.{Body, opened}
use Rattle.ap_books.specs.Texts.{closing}
use Rattle.ap_plain.specs.Ends.{Told}
use Rattle.ap_session.specs.Certs.{Seen, files_by}
use Rattle.ap_session.specs.Session.{book_text, end_acts, book_acts}
use Rattle.ap_session.specs.Storing.{Stored, StoredPart}
use Rattle.ap_session.specs.Working.{Working}
use Rattle.ap_session.specs.Acts.{Act, put, store, put_by, stored_by, Outside, outside, Acted, Begun, FailedAt, GainedLess, Tied}
use Rattle.ap_session.proofs.Storing.{stored_none, stored_more}

-- what acts put and store, one list of them behind another

pub put_more : (xs ys : List Act) → put_by (xs ++ ys) ≡ put_by xs ++ put_by ys
put_more [] ys = refl
put_more (put t ∷ xs) ys = ap (λ u. t ++ u) (put_more xs ys) ∙ sym (append_assoc t (put_by xs) (put_by ys))
put_more (store f ∷ xs) ys = put_more xs ys

pub stored_by_more : (xs ys : List Act) → stored_by (xs ++ ys) ≡ stored_by xs ++ stored_by ys
stored_by_more [] ys = refl
stored_by_more (put t ∷ xs) ys = stored_by_more xs ys
stored_by_more (store f ∷ xs) ys = ap (λ fs. f ∷ fs) (stored_by_more xs ys)

-- stores put nothing

pub put_stores : (fs : Files) → put_by (map store fs) ≡ []
put_stores [] = refl
put_stores (f ∷ fs) = put_stores fs

pub stored_stores : (fs : Files) → stored_by (map store fs) ≡ fs
stored_stores [] = refl
stored_stores (f ∷ fs) = ap (λ gs. f ∷ gs) (stored_stores fs)

-- stores, and then a text

pub put_end : (fs : Files) (t : List ℕ) → put_by (map store fs ++ put t ∷ []) ≡ t
put_end [] t = append-nil t
put_end (f ∷ fs) t = put_end fs t

pub stored_end : (fs : Files) (t : List ℕ) → stored_by (map store fs ++ put t ∷ []) ≡ fs
stored_end [] t = refl
stored_end (f ∷ fs) t = ap (λ gs. f ∷ gs) (stored_end fs t)

-- nothing was done

same_gained : (a b : Option (List ℕ)) → b ≡ a → Gained a b []
same_gained a b e = e ∙ gained_nothing a

no_part : (a b : Option (List ℕ)) (t : List ℕ) → Gained a b [] → GainedPart a b t
no_part a b t h = record { part = []; rest = t; whole = refl; gained = h }

no_file : (a b : Option Files) (fs : Files) → Stored a b [] → StoredPart a b fs
no_file a b fs h = record { done = []; rest = fs; whole = refl; elsewhere = λ name. inr (h name) }

pub acted_none : (a b : Outside) → b.content ≡ a.content → b.files ≡ a.files → Acted a b []
acted_none a b c f = record { text = same_gained a.content b.content c; files = stored_none a.files b.files f }

begun_none : (a b : Outside) (acts : List Act) → Acted a b [] → Begun a b acts
begun_none a b [] h = h
begun_none a b (put t ∷ acts) h = (no_part a.content b.content t h.text, h.files)
begun_none a b (store f ∷ acts) h = (h.text, no_file a.files b.files (f ∷ []) h.files)

-- some acts, and then others

pub acted_more : (a b c : Outside) (xs ys : List Act) → Acted a b xs → Acted b c ys → Acted a c (xs ++ ys)
acted_more a b c xs ys h k = record {
  text = gained_to a.content c.content (put_by xs ++ put_by ys) (put_by (xs ++ ys)) (gained_more a.content b.content c.content (put_by xs) (put_by ys) h.text k.text) (sym (put_more xs ys));
  files = subst (λ fs. Stored a.files c.files fs) (sym (stored_by_more xs ys)) (stored_more a.files b.files c.files (stored_by xs) (stored_by ys) h.files k.files);
}

begun_first : (a b : Outside) (xs ys : List Act) → Begun a b xs → Begun a b (xs ++ ys)
begun_first a b [] ys h = begun_none a b ys h
begun_first a b (put t ∷ xs) ys h = h
begun_first a b (store f ∷ xs) ys h = h

failed_first : (a m b : Outside) (xs ys : List Act) → FailedAt a m b xs → FailedAt a m b (xs ++ ys)
failed_first a m b [] ys h = absurd h
failed_first a m b (put t ∷ xs) ys h = h
failed_first a m b (store f ∷ xs) ys h = h

-- no count fell
pub record Later (a b : Outside) : Type 0 where
  pub puts : a.puts ≤ b.puts
  pub stores : a.stores ≤ b.stores

failed_next : (a b m c : Outside) (acts : List Act) → Later a b → Later b c → FailedAt b m c acts → FailedAt a m c acts
failed_next a b m c [] h k f = f
failed_next a b m c (put t ∷ acts) h k f = (rose_within a.puts b.puts c.puts c.puts h.puts k.puts f.0 (omega arith), f.1)
failed_next a b m c (store g ∷ acts) h k f = rose_within a.stores b.stores c.stores c.stores h.stores k.stores f (omega arith)

-- cut off within the first of some acts
pub tied_first : (a b : Outside) (failed : Type 0) (xs ys : List Act) → Tied a b failed xs → Tied a b failed (xs ++ ys)
tied_first a b failed xs ys h = record {
  done = h.done;
  rest = h.rest ++ ys;
  whole = ap (λ zs. zs ++ ys) h.whole ∙ append_assoc h.done h.rest ys;
  between = h.between;
  first = h.first;
  cut = begun_first h.between b h.rest ys h.cut;
  cause = λ f. failed_first a h.between b h.rest ys (h.cause f);
}

-- within the others
pub tied_next : (a b c : Outside) (failed : Type 0) (xs ys : List Act) → Later a b → Later b c → Acted a b xs → Tied b c failed ys → Tied a c failed (xs ++ ys)
tied_next a b c failed xs ys l m h k = record {
  done = xs ++ k.done;
  rest = k.rest;
  whole = ap (λ zs. xs ++ zs) k.whole ∙ sym (append_assoc xs k.done k.rest);
  between = k.between;
  first = acted_more a b k.between xs k.done h k.first;
  cut = k.cut;
  cause = λ f. failed_next a b k.between c k.rest l m (k.cause f);
}

-- behind them all
pub tied_all : (a b : Outside) (failed : Type 0) (acts : List Act) → ¬ failed → Acted a b acts → Tied a b failed acts
tied_all a b failed acts none h = record {
  done = acts;
  rest = [];
  whole = sym (append-nil acts);
  between = b;
  first = h;
  cut = acted_none b b refl refl;
  cause = λ x. absurd (none x);
}

-- before them all
pub tied_none : (a b : Outside) (failed : Type 0) (acts : List Act) → ¬ failed → b.content ≡ a.content → b.files ≡ a.files → Tied a b failed acts
tied_none a b failed acts none c f = record {
  done = [];
  rest = acts;
  whole = refl;
  between = a;
  first = acted_none a a refl refl;
  cut = begun_none a b acts (acted_none a b c f);
  cause = λ x. absurd (none x);
}

-- within a text
pub tied_put : (a b : Outside) (failed : Type 0) (t : List ℕ) (acts : List Act) → (failed → Rose a.puts b.puts) → (failed → GainedLess a.content b.content t) → GainedPart a.content b.content t → b.files ≡ a.files → Tied a b failed (put t ∷ acts)
tied_put a b failed t acts rose less part same = record {
  done = [];
  rest = put t ∷ acts;
  whole = refl;
  between = a;
  first = acted_none a a refl refl;
  cut = (part, stored_none a.files b.files same);
  cause = λ f. (rose f, less f);
}

-- within a store
pub tied_store : (a b : Outside) (failed : Type 0) (f : List ℕ × List ℕ) (acts : List Act) → (failed → Rose a.stores b.stores) → b.content ≡ a.content → StoredPart a.files b.files (f ∷ []) → Tied a b failed (store f ∷ acts)
tied_store a b failed f acts rose same part = record {
  done = [];
  rest = store f ∷ acts;
  whole = refl;
  between = a;
  first = acted_none a a refl refl;
  cut = (same_gained a.content b.content same, part);
  cause = rose;
}

-- within a text behind stores
pub tied_end : (a b : Outside) (failed : Type 0) (fs : Files) (t : List ℕ) → (failed → Rose a.puts b.puts) → (failed → GainedLess a.content b.content t) → GainedPart a.content b.content t → Stored a.files b.files fs → Tied a b failed (map store fs ++ put t ∷ [])
tied_end a b failed fs t rose less part stored = record {
  done = map store fs;
  rest = put t ∷ [];
  whole = refl;
  between = outside a.content a.puts b.files a.stores;
  first = record {
    text = gained_to a.content a.content [] (put_by (map store fs)) (gained_nothing a.content) (sym (put_stores fs));
    files = subst (λ gs. Stored a.files b.files gs) (sym (stored_stores fs)) stored;
  };
  cut = (part, stored_none b.files b.files refl);
  cause = λ f. (rose f, less f);
}

-- by another word for the failure
pub tied_by : (a b : Outside) (failed other : Type 0) (acts : List Act) → (other → failed) → Tied a b failed acts → Tied a b other acts
tied_by a b failed other acts to h = record {
  done = h.done;
  rest = h.rest;
  whole = h.whole;
  between = h.between;
  first = h.first;
  cut = h.cut;
  cause = λ x. h.cause (to x);
}

-- of a fault that is handed on
pub tied_same : {E : Type 0} (a b : Outside) (failed e f : E) (acts : List Act) → f ≡ e → Tied a b (e ≡ failed) acts → Tied a b (f ≡ failed) acts
tied_same a b failed e f acts is h = tied_by a b (e ≡ failed) (f ≡ failed) acts (λ x. sym is ∙ x) h

-- the acts of a book

pub book_puts : (seen : Seen) (name : List ℕ) (read : BookRead) (b : Body Working Told) → put_by (book_acts seen name read b) ≡ book_text name b
unfolding book_text
book_puts seen name read b = ap (λ t. opened name b ++ t) (put_end (files_by seen name read b.certified) (closing name b.certified))

pub acted_book : (a c : Outside) (seen : Seen) (name : List ℕ) (read : BookRead) (b : Body Working Told)
    → Gained a.content c.content (book_text name b) → Stored a.files c.files (files_by seen name read b.certified) → Acted a c (book_acts seen name read b)
acted_book a c seen name read b text files = record {
  text = gained_to a.content c.content (book_text name b) (put_by (book_acts seen name read b)) text (sym (book_puts seen name read b));
  files = subst (λ fs. Stored a.files c.files fs) (sym (stored_end (files_by seen name read b.certified) (closing name b.certified))) files;
}

-- its text before the last line
pub acted_opened : (a c : Outside) (text : List ℕ) → Gained a.content c.content text → c.files ≡ a.files → Acted a c (put text ∷ [])
acted_opened a c text h stay = record {
  text = gained_to a.content c.content text (text ++ []) h (sym (append-nil text));
  files = stored_none a.files c.files stay;
}

-- at the store of its certificate, which another book hasn't
pub tied_cert : (a c : Outside) (failed : Type 0) (seen : Seen) (name : List ℕ) (read : BookRead) (certified : Bool) → certified ≡ true
    → (failed → Rose a.stores c.stores) → c.content ≡ a.content → StoredPart a.files c.files (files_by seen name read certified) → Tied a c failed (end_acts seen name read certified)
tied_cert a c failed seen name read true is rose same part = tied_store a c failed _ _ rose same part
tied_cert a c failed seen name read false is rose same part = absurd cc

-- what a call answered that may have failed
pub if_err : {T E : Type 0} {P : E → Type 0} (r : Result T E) → ((e : E) → r ≡ Err e → P e) → IfErr r P
if_err (Ok x) h = tt
if_err (Err e) h = h e refl
