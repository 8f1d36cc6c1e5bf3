-- A book's body over an admitter: what its forms print, one after another, up to the first that is refused.
use Rattle.std.specs.Prelude.{◌≡◌, ◌⊎◌, ℕ, Bool, true, false, cond, List, [], ◌∷◌, ◌++◌, Result, Ok, Err}
use Rattle.ap_outside.specs.declared.library.BookRead.{BookRead}
use Rattle.ap_outside.specs.declared.library.BookRead.TheVariants.{Absent, TooLong, Found}
use Rattle.ap_tokens.specs.Gaps.{at}
use Rattle.ap_reader.specs.declared.form.Form.{Form}
use Rattle.ap_reader.specs.Faults.{ReadFault}
use Rattle.ap_reader.specs.Reading.{forms_from}
use Rattle.ap_books.specs.Package.{is_package}
use Rattle.ap_books.specs.Texts.{opening, absent_text, too_long_text, read_error_text, no_package_text}

-- what a call of an admitter gives: a text, whether it refuses, the state after it, and what is told besides
pub record Turn (S X : Type 0) : Type 0 where
  pub text : List ℕ
  pub refused : Bool
  pub next : S
  pub log : List X

-- a body: its text, whether it is certified, the state after it, and what was told on the way
pub record Body (S X : Type 0) : Type 0 where
  pub text : List ℕ
  pub certified : Bool
  pub state : S
  pub log : List X

abbrev pub before : {S X : Type 0} → List ℕ → List X → Body S X → Body S X
before text log b = record { text = text ++ b.text; certified = b.certified; state = b.state; log = log ++ b.log }

-- a turn, and where it isn't refused what follows it
abbrev pub go_on : {S X : Type 0} → List ℕ → List X → Bool → S → (S → Body S X) → Body S X
go_on text log true s more = record { text = text; certified = false; state = s; log = log }
go_on text log false s more = before text log (more s)

abbrev pub certified : {S X : Type 0} → S → Body S X
certified s = record { text = []; certified = true; state = s; log = [] }

-- the forms in order, and then what stands at the book's end
abbrev pub worked : {S X : Type 0} → (S → Form → Turn S X) → (S → Turn S X) → List Form → S → Body S X
worked admits ends [] s = go_on (ends s).text (ends s).log (ends s).refused (ends s).next certified
worked admits ends (f ∷ fs) s = go_on (admits s f).text (admits s f).log (admits s f).refused (admits s f).next (worked admits ends fs)

-- a body that stands for no forms
abbrev pub without_forms : {S X : Type 0} → List ℕ → S → Body S X
without_forms text s = record { text = text; certified = false; state = s; log = [] }

-- what is read of a text: its forms, or its first fault
abbrev pub forms_in : List ℕ → Result (List Form) ReadFault
forms_in text = forms_from (at 0 text)

-- whether the first of a book's forms names the package, and the others
abbrev pub begins_well : List Form → Bool
begins_well [] = false
begins_well (f ∷ fs) = is_package f

abbrev pub behind : List Form → List Form
behind [] = []
behind (f ∷ fs) = fs

-- The events of a book that is read: its first form names the package, and the others are worked. Else what is printed of
-- the book.
abbrev pub events_behind : List Form → Result (List Form) (List ℕ)
events_behind [] = Err no_package_text
events_behind (f ∷ fs) = cond (is_package f) (Ok fs) (Err no_package_text)

-- a book is read whole before any form is worked
abbrev pub events_read : Result (List Form) ReadFault → Result (List Form) (List ℕ)
events_read (Err e) = Err (read_error_text e)
events_read (Ok fs) = events_behind fs

abbrev pub events_in : BookRead → Result (List Form) (List ℕ)
events_in Absent = Err absent_text
events_in TooLong = Err too_long_text
events_in (Found book) = events_read (forms_in book.0)

module _ {S X : Type 0} (admits : S → Form → Turn S X) (ends : S → Turn S X) where
  abbrev pub body_by : Result (List Form) (List ℕ) → S → Body S X
  body_by (Err text) s = without_forms text s
  body_by (Ok fs) s = worked admits ends fs s

  abbrev pub body_of : BookRead → S → Body S X
  body_of read s = body_by (events_in read) s

-- a book's first line and its body
unfoldable pub opened : {S X : Type 0} → List ℕ → Body S X → List ℕ
opened name b = opening name ++ b.text

-- what a call showed of a turn
pub record Shows {S X : Type 0} (t : Turn S X) (shown : List ℕ) (stops : Bool) (s : S) : Type 0 where
  pub text : t.text ≡ shown
  pub refused : t.refused ≡ stops
  pub next : t.next ≡ s

-- what follows a call: nothing where it refused
abbrev pub Onward : {A : Type 0} → Bool → (A → A → Type 0) → A → A → Type 0
Onward true more a b = a ≡ b
Onward false more a b = more a b

-- a call that worked a form, or none
abbrev pub Ran : {A S X : Type 0} → (A → S) → (S → Form → Turn S X) → (A → Form → A → Type 0) → (A → A → Type 0) → Form → A → A → Type 0
Ran state admits links rests f a b = (links a f b × ((admits (state a) f).next ≡ state b)) ⊎ (rests a b × (state b ≡ state a))

-- The admitter after a prefix of the calls, of which none but the last refused. Where a form was worked `links` holds over it
-- and the state is the next one; where none was, `rests` holds and the state is as it was, or behind the forms as the book's
-- end leaves it.
abbrev pub Reached : {A S X : Type 0} → (A → S) → (S → Form → Turn S X) → (S → Turn S X) → (A → Form → A → Type 0) → (A → A → Type 0) → List Form → A → A → Type 0
Reached state admits ends links rests [] a b = (a ≡ b) ⊎ (rests a b × ((state b ≡ state a) ⊎ ((ends (state a)).next ≡ state b)))
Reached {A} state admits ends links rests (f ∷ fs) a b =
    (a ≡ b)
    ⊎ ((rests a b × (state b ≡ state a))
    ⊎ ((c : A) × links a f c × ((admits (state a) f).next ≡ state c) × Onward (admits (state a) f).refused (Reached state admits ends links rests fs) c b))

-- the forms of a book that are worked
abbrev pub forms_by : Result (List Form) (List ℕ) → List Form
forms_by (Err text) = []
forms_by (Ok fs) = fs

abbrev pub forms_of : BookRead → List Form
forms_of read = forms_by (events_in read)
