-- Texts that were put, and books that were worked, whole or up to where a fault cut them off.
use Rattle.std.proofs.Common.{◌≡◌, ◌≢◌, ◌≤◌, ◌⊎◌, ◌∙◌, ◌++◌, ℕ, Bool, List, Option, Result, Ok, Err, refl, ap, sym, subst, inl, inr, arith}
use Rattle.ap_outside.specs.declared.fault.WriteFault.{WriteFault}
use Rattle.ap_outside.specs.declared.fault.WriteFault.TheVariants as sink_faults
use Rattle.ap_outside.specs.Faults.{Rose}
use Rattle.ap_outside.specs.Gains.{Gained, GainedPart}
use Rattle.ap_outside.proofs.Gains.{gained_more, part_next, part_none, part_all, rose_within}
use Rattle.ap_books.specs.declared.admitter.BookSeen.{BookSeen}
use Rattle.ap_books.specs.Bodies.{Body}
use Rattle.ap_plain.specs.Ends.{Told}
use Rattle.ap_session.specs.declared.fault.Fault.{Fault}
use Rattle.ap_session.specs.declared.fault.Fault.TheVariants as faults
use Rattle.ap_session.specs.Acts.{Outside, GainedLess, Tied}
use Rattle.ap_session.specs.Certs.{seen_in, files_by}
use Rattle.ap_session.specs.Session.{book_text, book_acts}
use Rattle.ap_session.specs.Showing.{Puts, BookWorked}
use Rattle.ap_session.specs.Storing.{Stored, StoredPart}
use Rattle.ap_session.specs.Working.{Working}
use Rattle.ap_session.proofs.Unput.{less_next}

-- a text, whole
pub puts_whole : {A : Type 0} (a b : Option (List ℕ)) (k n : ℕ) (x : A) (t : List ℕ) → Gained a b t → k ≤ n → Puts a b k n (Ok x) t
puts_whole a b k n x t text later = record {
  text = text;
  part = tt;
  unput = λ f. absurd (cc f);
  later = later;
  failed = λ f. absurd (cc f);
}

-- cut off
pub puts_cut : {A : Type 0} (a b : Option (List ℕ)) (k n : ℕ) (r : Result A WriteFault) (e : WriteFault) (t : List ℕ) → r ≡ Err e
    → GainedPart a b t → (e ≡ sink_faults.Failed → GainedLess a b t) → k ≤ n → (e ≡ sink_faults.Failed → Rose k n) → Puts a b k n r t
puts_cut a b k n r e t is part less later rose =
    subst (λ x. Puts a b k n x t) (sym is)
    (record {
      text = tt;
      part = part;
      unput = λ f. less (cc f);
      later = later;
      failed = λ f. rose (cc f);
    })

-- before any of it
pub puts_none : {A : Type 0} (a : Option (List ℕ)) (n : ℕ) (r : Result A WriteFault) (e : WriteFault) (t : List ℕ) → r ≡ Err e → ¬ (e ≡ sink_faults.Failed) → Puts a a n n r t
puts_none a n r e t is none = puts_cut a a n n r e t is (part_none a t) (λ f. absurd (none f)) (omega arith) (λ f. absurd (none f))

-- behind all of it
pub puts_all : {A : Type 0} (a b : Option (List ℕ)) (k n : ℕ) (r : Result A WriteFault) (e : WriteFault) (t : List ℕ) → r ≡ Err e → ¬ (e ≡ sink_faults.Failed) → Gained a b t → k ≤ n → Puts a b k n r t
puts_all a b k n r e t is none text later = puts_cut a b k n r e t is (part_all a b t text) (λ f. absurd (none f)) later (λ f. absurd (none f))

-- by a fault that is handed on
pub puts_same : {A B : Type 0} (a b : Option (List ℕ)) (k n : ℕ) (r : Result B WriteFault) (e f : WriteFault) (t : List ℕ) → r ≡ Err f → f ≡ e
    → Puts {A = A} a b k n (Err e) t → Puts a b k n r t
puts_same a b k n r e f t is same h =
    puts_cut a b k n r f t is h.part (λ failed. h.unput (ap (λ x. Err x) (sym same ∙ failed))) h.later (λ failed. h.failed (ap (λ x. Err x) (sym same ∙ failed)))

-- the same text under another name
pub puts_to : {A : Type 0} (a b : Option (List ℕ)) (k n : ℕ) (r : Result A WriteFault) (s t : List ℕ) → Puts a b k n r s → s ≡ t → Puts a b k n r t
puts_to a b k n r s t h e = subst (λ u. Puts a b k n r u) e h

-- behind another text
pub puts_next : {A : Type 0} (a b c : Option (List ℕ)) (k m n : ℕ) (r : Result A WriteFault) (s t : List ℕ) → Gained a b s → k ≤ m → Puts b c m n r t → Puts a c k n r (s ++ t)
puts_next a b c k m n (Ok x) s t g l h = let later = h.later in puts_whole a c k n x (s ++ t) (gained_more a b c s t g h.text) (omega arith)
puts_next a b c k m n (Err e) s t g l h =
    let later = h.later in
    puts_cut a c k n (Err e) e (s ++ t) refl (part_next a b c s t g h.part) (λ f. less_next a b c s t g (h.unput (ap (λ x. Err x) f))) (omega arith)
    (λ f. rose_within k m n n l later (h.failed (ap (λ x. Err x) f)) (omega arith))

-- a book, whole
pub book_whole : (a b : Outside) (good : Bool) (before : List BookSeen) (book : BookSeen) (body : Body Working Told)
    → Gained a.content b.content (book_text book.name.0 body) → Stored a.files b.files (files_by (seen_in before) book.name.0 book.read body.certified)
    → a.stores ≤ b.stores → a.puts ≤ b.puts → BookWorked a b (Ok good) before book body
book_whole a b good before book body text files stores puts = record {
  text = text;
  files = files;
  part = tt;
  stored = tt;
  tied = tt;
  stores = stores;
  later = puts;
  failed = λ f. absurd (cc f);
  unread = λ f. absurd (cc f);
}

-- cut off
pub book_cut : (a b : Outside) (r : Result Bool Fault) (e : Fault) (before : List BookSeen) (book : BookSeen) (body : Body Working Told) → r ≡ Err e
    → GainedPart a.content b.content (book_text book.name.0 body) → StoredPart a.files b.files (files_by (seen_in before) book.name.0 book.read body.certified)
    → Tied a b (e ≡ faults.Write) (book_acts (seen_in before) book.name.0 book.read body)
    → a.stores ≤ b.stores → a.puts ≤ b.puts → (e ≡ faults.Write → Rose a.stores b.stores ⊎ Rose a.puts b.puts) → e ≢ faults.Read → BookWorked a b r before book body
book_cut a b r e before book body is part stored tied stores puts rose unread =
    subst (λ x. BookWorked a b x before book body) (sym is)
    (record {
      text = tt;
      files = tt;
      part = part;
      stored = stored;
      tied = tied;
      stores = stores;
      later = puts;
      failed = λ f. rose (cc f);
      unread = λ f. unread (cc f);
    })

-- of a fault that is handed on
pub book_same : (a b : Outside) (r : Result Bool Fault) (e f : Fault) (before : List BookSeen) (book : BookSeen) (body : Body Working Told) → r ≡ Err f → f ≡ e
    → BookWorked a b (Err e) before book body → BookWorked a b r before book body
book_same a b r e f before book body is same h = subst (λ x. BookWorked a b x before book body) (sym (is ∙ ap (λ x. Err x) same)) h

-- a fault behind puts that didn't fail
pub rose_on : (s t a m n : ℕ) → a ≤ m → m ≤ n → Rose s t ⊎ Rose m n → Rose s t ⊎ Rose a n
rose_on s t a m n h k (inl r) = inl r
rose_on s t a m n h k (inr r) = inr (rose_within a m n n h k r (omega arith))

-- and one within a longer time
pub rose_over : (a m n b k l : ℕ) → a ≤ m → m ≤ n → b ≤ k → k ≤ l → Rose m n ⊎ Rose k l → Rose a n ⊎ Rose b l
rose_over a m n b k l h i p q (inl r) = inl (rose_within a m n n h i r (omega arith))
rose_over a m n b k l h i p q (inr r) = inr (rose_within b k l l p q r (omega arith))
