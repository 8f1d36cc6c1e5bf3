-- The session: what is printed, which status and which world the words and the books give.
use Rattle.std.specs.Prelude.{◌≡◌, ◌≤◌, ◌⊎◌, ℕ, Bool, true, false, cond, ◌&&◌, List, [], ◌∷◌, ◌++◌, map, Option, Some, None, codes, IfSome}
use Rattle.ap_world.specs.World.{Shown}
use Rattle.ap_outside.specs.declared.fault.WriteFault.{WriteFault as SinkFault}
use Rattle.ap_outside.specs.declared.fault.WriteFault.TheVariants as sink_faults
use Rattle.ap_outside.specs.declared.library.BookRead.{BookRead}
use Rattle.ap_outside.specs.Gains.{Gained}
use Rattle.ap_outside.specs.Files.{Files, told_at}
use Rattle.ap_outside.specs.Books.{answer_of}
use Rattle.ap_reader.specs.declared.form.Form.{Form}
use Rattle.ap_table.specs.declared.link.DropNote.{DropNote}
use Rattle.ap_books.specs.declared.admitter.BookSeen.{BookSeen}
use Rattle.ap_books.specs.Bodies.{Body, body_of, forms_of, opened}
use Rattle.ap_books.specs.Texts.{closing}
use Rattle.ap_plain.specs.declared.limits.Limits.{Limits}
use Rattle.ap_plain.specs.Ends.{Told, walks_in, goals_in}
use Rattle.ap_plain.specs.Drops.{DividedWalks}
use Rattle.ap_events.specs.Books.{Earlier}
use Rattle.ap_session.specs.declared.report.Status.{Status}
use Rattle.ap_session.specs.declared.report.Status.TheVariants.{Certified, NotCertified, Usage, ReadFault, WriteFault, NoMemory}
use Rattle.ap_session.specs.declared.fault.Fault.{Fault}
use Rattle.ap_session.specs.declared.fault.Fault.TheVariants as faults
use Rattle.ap_session.specs.declared.second.Second.{Second}
use Rattle.ap_session.specs.declared.second.Second.TheVariants.{SoFar, Failed}
use Rattle.ap_session.specs.Admitting.{AdmittingSeen, notes_in, left_in, IsTold}
use Rattle.ap_session.specs.Acts.{Act, put, store, put_by, stored_by}
use Rattle.ap_session.specs.Certs.{Seen, files_by}
use Rattle.ap_session.specs.Command.{Command, Demo, of_books, of_demo}
use Rattle.ap_session.specs.Demo.{demo_read, admitted_of, demo_line}
use Rattle.ap_session.specs.Storing.{Stored}
use Rattle.ap_session.specs.Texts.{usage_text, trace_text}
use Rattle.ap_session.specs.Working.{Working, start, begin, admits, ends}

-- the body of a book that was read, behind earlier ones
abbrev pub read_body : Limits → Earlier → BookRead → Body Working Told
read_body limits earlier read = body_of admits ends read (begin limits earlier)

-- a book's text, from its first line to its last
unfoldable pub book_text : List ℕ → Body Working Told → List ℕ
book_text name b = opened name b ++ closing name b.certified

-- what a book does to the outside, in order: its text before the last line, its certificate where it is certified, and then
-- its last line
abbrev pub end_acts : Seen → List ℕ → BookRead → Bool → List Act
end_acts seen name read certified = map store (files_by seen name read certified) ++ put (closing name certified) ∷ []

abbrev pub book_acts : Seen → List ℕ → BookRead → Body Working Told → List Act
book_acts seen name read b = put (opened name b) ∷ end_acts seen name read b.certified

-- the world that a certified book keeps, which later books may include: that of its second pass
abbrev pub kept_by : Second → Shown → Shown
kept_by (SoFar v) w = v
kept_by (Failed text) w = w

abbrev pub kept_of : Body Working Told → Shown
kept_of b = kept_by b.state.second b.state.world

-- the kept worlds with this book's, where it is certified
abbrev pub kept_more : Earlier → List ℕ → Body Working Told → Earlier
kept_more earlier name b = earlier ++ cond b.certified ((name, kept_of b) ∷ []) []

-- the last world of a book
abbrev pub last_of : Body Working Told → Shown
last_of b = cond b.certified (kept_of b) b.state.world

-- a session so far: its text, whether each of its books is certified, the books as they were read, the certificates that
-- were stored, in which order these and the text's parts were, what was told on the way, the kept worlds of the certified
-- books, by their names, and the last world
pub record Session : Type 0 where
  pub text : List ℕ
  pub certified : Bool
  pub seen : Seen
  pub files : Files
  pub acts : List Act
  pub told : List Told
  pub earlier : Earlier
  pub last : Shown

abbrev pub begun : Session
begun = record { text = []; certified = true; seen = []; files = []; acts = []; told = []; earlier = []; last = start }

-- one book more
abbrev pub with_body : Session → List ℕ → BookRead → Body Working Told → Session
with_body s name read b = record {
  text = s.text ++ book_text name b;
  certified = s.certified && b.certified;
  seen = s.seen ++ (name, read) ∷ [];
  files = s.files ++ files_by s.seen name read b.certified;
  acts = s.acts ++ book_acts s.seen name read b;
  told = s.told ++ b.log;
  earlier = kept_more s.earlier name b;
  last = last_of b;
}

abbrev pub then_book : Limits → Session → List ℕ → BookRead → Session
then_book limits s name read = with_body s name read (read_body limits s.earlier read)

-- the books of these names, as they were read; the reads may be fewer than the names
abbrev pub books_of : Limits → Session → List (List ℕ) → List BookRead → Session
books_of limits s [] reads = s
books_of limits s (name ∷ names) [] = s
books_of limits s (name ∷ names) (read ∷ reads) = books_of limits (then_book limits s name read) names reads

-- the session that words which are no command give
abbrev pub usage : Session
usage = record {
  text = usage_text;
  certified = false;
  seen = [];
  files = [];
  acts = put usage_text ∷ [];
  told = [];
  earlier = [];
  last = start;
}

-- the demo: its book is worked as any other is behind none, and of all that it prints one line tells
abbrev pub line_of : Demo → List Form → Body Working Told → List ℕ
line_of d fs b = demo_line d.number (admitted_of fs (begin d.limits [])) (goals_in b.log) b.certified

abbrev pub demo_worked : Demo → List Form → Body Working Told → Session
demo_worked d fs b = record {
  text = line_of d fs b;
  certified = b.certified;
  seen = [];
  files = [];
  acts = put (line_of d fs b) ∷ [];
  told = b.log;
  earlier = [];
  last = last_of b;
}

abbrev pub demo_session : Demo → Session
demo_session d = demo_worked d (forms_of (demo_read d.number)) (read_body d.limits [] (demo_read d.number))

-- by what the words command, and by what the reads of the books answered
abbrev pub session : Option Command → List BookRead → Session
session None reads = usage
session (Some (of_books o)) reads = books_of o.limits begun o.books reads
session (Some (of_demo d)) reads = demo_session d

abbrev pub status_of : Option Command → Bool → Status
status_of None certified = Usage
status_of (Some c) certified = cond certified Certified NotCertified

-- where the words ask for it, what was dropped is told at the end
abbrev pub traced : Option Command → List DropNote → List ℕ
traced None drops = []
traced (Some (of_books o)) drops = cond o.trace (trace_text drops) []
traced (Some (of_demo d)) drops = []

-- all that is printed
abbrev pub output : Option Command → Session → List DropNote → List ℕ
output command s drops = s.text ++ traced command drops

-- and all that is done to the outside
abbrev pub acts_of : Option Command → Session → List DropNote → List Act
acts_of command s drops = s.acts ++ put (traced command drops) ∷ []

-- what a session's acts put is its text, and what they store are its certificates
abbrev pub ActsAgree : Session → Type 0
ActsAgree s = (put_by s.acts ≡ s.text) × (stored_by s.acts ≡ s.files)

-- the session passed through this world
abbrev pub PassedThrough : Session → Shown → Type 0
PassedThrough s w = (w ≡ start) ⊎ IsTold s.told w

-- what the reads of the books answered
abbrev pub reads_in : List BookSeen → List BookRead
reads_in books = map (λ b. b.read) books

-- the books of these names, by what they were read as, from the start
abbrev pub worked_books : AdmittingSeen → List (List ℕ) → List BookSeen → Session
worked_books a names books = books_of a.working.limits begun names (reads_in books)

-- all books were worked, and this is what they gave
pub record Worked (before after : Option (List ℕ)) (old new : Option Files) (s : Session) (all : Bool) (a : AdmittingSeen) : Type 0 where
  pub text : Gained before after s.text
  pub files : Stored old new s.files
  pub certified : s.certified ≡ all
  pub earlier : s.earlier ≡ a.working.earlier
  pub last : s.last ≡ left_in a

-- what holds of a session that was worked so far, also where a fault cut it off
pub record Kept (s : Session) (a b : AdmittingSeen) : Type 0 where
  pub passed : PassedThrough s (left_in b)
  pub drops : DividedWalks (notes_in b) (walks_in s.told)
  pub alone : a.workers ≤ 1 → notes_in b ≡ []

-- the file that a book is read from
abbrev pub file_name : List ℕ → List ℕ
file_name name = name ++ codes ".lisp"

-- the books of a report are the first of those that are named, in order, each as the library told it
abbrev pub Listed : Option Files → List (List ℕ) → List BookSeen → Type 0
Listed files names [] = Unit {0}
Listed files [] (b ∷ books) = ⊥
Listed files (name ∷ names) (b ∷ books) =
    (b.name.0 ≡ name) × IfSome (told_at files (file_name name)) (λ found. b.read ≡ answer_of found) × Listed files names books

-- one book more is listed
pub record IsNext (files : Option Files) (name : List ℕ) (old new : List BookSeen) : Type 0 where
  pub book : BookSeen
  pub listed : new ≡ old ++ book ∷ []
  pub named : book.name.0 ≡ name
  pub told : IfSome (told_at files (file_name name)) (λ found. book.read ≡ answer_of found)

-- a fault of a put or a store, as the session's
abbrev pub written_fault : SinkFault → Fault
written_fault sink_faults.Failed = faults.Write
written_fault sink_faults.NoMemory = faults.NoMemory

-- the status that a fault gives
abbrev pub fault_status : Fault → Status
fault_status faults.Read = ReadFault
fault_status faults.Write = WriteFault
fault_status faults.NoMemory = NoMemory

-- the session ended by itself, and not by a fault
abbrev pub is_done : Status → Bool
is_done Certified = true
is_done NotCertified = true
is_done Usage = true
is_done ReadFault = false
is_done WriteFault = false
is_done NoMemory = false

-- by itself, or for want of memory
abbrev pub EndsItself : Status → Type 0
EndsItself NoMemory = Unit {0}
EndsItself s = is_done s ≡ true

-- the exit status
abbrev pub number_of : Status → ℕ
number_of Certified = 0
number_of NotCertified = 1
number_of Usage = 2
number_of ReadFault = 3
number_of WriteFault = 4
number_of NoMemory = 5

-- what stands on standard error
abbrev pub message_of : Status → List ℕ
message_of Certified = []
message_of NotCertified = []
message_of Usage = []
message_of ReadFault = codes "acl2p: read fault" ++ 10 ∷ []
message_of WriteFault = codes "acl2p: write fault" ++ 10 ∷ []
message_of NoMemory = codes "acl2p: no memory" ++ 10 ∷ []
