-- What a call that puts a text did, and what one that works a book did, also where a fault cut it off.
use Rattle.std.specs.Prelude.{◌≡◌, ◌≢◌, ◌≤◌, ◌⊎◌, ℕ, Bool, List, Option, Result, Err, IfErr, OnOk, OnErr}
use Rattle.ap_outside.specs.declared.fault.WriteFault.{WriteFault}
use Rattle.ap_outside.specs.Faults.{Rose}
use Rattle.ap_outside.specs.Gains.{Gained, GainedPart}
use Rattle.ap_books.specs.declared.admitter.BookSeen.{BookSeen}
use Rattle.ap_books.specs.Bodies.{Body}
use Rattle.ap_plain.specs.Ends.{Told}
use Rattle.ap_session.specs.declared.fault.Fault.{Fault}
use Rattle.ap_session.specs.Acts.{Outside, GainedLess, Tied}
use Rattle.ap_session.specs.Certs.{seen_in, files_by}
use Rattle.ap_session.specs.Session.{book_text, book_acts}
use Rattle.ap_session.specs.Storing.{Stored, StoredPart}
use Rattle.ap_session.specs.Working.{Working}

-- A call put this text into a sink, whose text and count of faults were these before and after it: the whole text, or where
-- a fault cut it off a prefix; and where a put failed, which was counted, less than the whole.
pub record Puts {A : Type 0} (before after : Option (List ℕ)) (old new : ℕ) (r : Result A WriteFault) (t : List ℕ) : Type 0 where
  pub text : OnOk r (Gained before after t)
  pub part : OnErr r (GainedPart before after t)
  pub unput : r ≡ Err WriteFault.Failed → GainedLess before after t
  pub later : old ≤ new
  pub failed : r ≡ Err WriteFault.Failed → Rose old new

-- A call worked a book, which gave this body, behind these: its text was put and its certificate stored, or where a fault
-- cut it off the first acts of these; and a fault of writing was that of a put or a store that failed, which was counted.
pub record BookWorked (a b : Outside) (r : Result Bool Fault) (before : List BookSeen) (book : BookSeen) (body : Body Working Told) : Type 0 where
  pub text : OnOk r (Gained a.content b.content (book_text book.name.0 body))
  pub files : OnOk r (Stored a.files b.files (files_by (seen_in before) book.name.0 book.read body.certified))
  pub part : OnErr r (GainedPart a.content b.content (book_text book.name.0 body))
  pub stored : OnErr r (StoredPart a.files b.files (files_by (seen_in before) book.name.0 book.read body.certified))
  pub tied : IfErr r (λ e. Tied a b (e ≡ Fault.Write) (book_acts (seen_in before) book.name.0 book.read body))
  pub stores : a.stores ≤ b.stores
  pub later : a.puts ≤ b.puts
  pub failed : r ≡ Err Fault.Write → Rose a.stores b.stores ⊎ Rose a.puts b.puts
  pub unread : r ≢ Err Fault.Read
