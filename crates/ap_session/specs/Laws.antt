-- What is so of every session.
use Rattle.std.specs.Prelude.{◌≡◌, ℕ, true, List, Some}
use Rattle.ap_list.specs.Lists.{Each}
use Rattle.ap_world.specs.World.{Shown}
use Rattle.ap_outside.specs.declared.library.BookRead.{BookRead}
use Rattle.ap_reader.specs.declared.form.Form.{Form}
use Rattle.ap_books.specs.Bodies.{forms_of}
use Rattle.ap_plain.specs.declared.limits.Limits.{Limits}
use Rattle.ap_plain.specs.Ends.{Done}
use Rattle.ap_events.specs.Books.{Earlier, worked, worked_again}
use Rattle.ap_events.specs.Counting.{count_all, singles}
use Rattle.ap_events.specs.Nested.{plain, nesting_of, all}
use Rattle.ap_session.specs.Certs.{Seen, cert_of}
use Rattle.ap_session.specs.Demo.{admitted_of}
use Rattle.ap_session.specs.Working.{Working, start}
use Rattle.ap_session.specs.Session.{read_body, kept_of}

-- forms done again one after another, as the second pass of an `encapsulate` does them
abbrev pub done_again : Earlier → List Form → Shown → Done
done_again earlier fs w = all (λ f v. worked_again earlier v f) fs w

-- the world that a certified book keeps is the one behind its events when they are done again, from where each book begins
abbrev pub KeepsDoneAgain : Type 0
KeepsDoneAgain = (limits : Limits) (earlier : Earlier) (read : BookRead) → (read_body limits earlier read).certified ≡ true
    → (done_again earlier (forms_of read) start).next ≡ Some (kept_of (read_body limits earlier read))

-- how many single events of forms the first pass admits: those before the first that is refused
abbrev pub singles_of : Limits → Earlier → List Form → Shown → ℕ
singles_of limits earlier fs w = count_all (λ f v. worked limits earlier v f) (λ f v. singles limits earlier v f) fs w

-- the number in a certified book's certificate is how many its first pass admitted
abbrev pub CertificatesCount : Type 0
CertificatesCount = (limits : Limits) (earlier : Earlier) (seen : Seen) (name : List ℕ) (read : BookRead) → (read_body limits earlier read).certified ≡ true
    → (cert_of seen name read).events ≡ singles_of limits earlier (forms_of read) start

-- and so many are admitted of forms that hold no others, as the demo counts them
abbrev pub DemosCount : Type 0
DemosCount = (fs : List Form) (s : Working) → Each (λ f. nesting_of f ≡ plain) fs → admitted_of fs s ≡ singles_of s.limits s.earlier fs s.world
