-- One event that holds no others, done first and again, in a session with earlier books. See the manual's topic `include-book`.
use Rattle.std.specs.Prelude.{ℕ, Bool, true, false, cond, ◌||◌, List, [], ◌∷◌, ◌++◌, Option, Some, None, Ok, Err, codes}
use Rattle.ap_list.specs.Lists.{lookup_by}
use Rattle.ap_value.specs.declared.symbol.Symbol.{Symbol}
use Rattle.ap_value.specs.Values.{acl2, symbol_eq, bytes_eq}
use Rattle.ap_term.specs.Printed.{symbol_text}
use Rattle.ap_reader.specs.declared.form.Form.{Form}
use Rattle.ap_reader.specs.Tops.{layer_of, string_at, items_in}
use Rattle.ap_world.specs.Including.{has_clash, included}
use Rattle.ap_world.specs.World.{Shown}
use Rattle.ap_plain.specs.declared.kinds.Kind.{Kind}
use Rattle.ap_plain.specs.declared.kinds.Kind.TheVariants as kind
use Rattle.ap_plain.specs.declared.limits.Limits.{Limits}
use Rattle.ap_plain.specs.declared.proposing.Proposal.{Proposal}
use Rattle.ap_stated.specs.declared.refusing.Refusal.{Refusal}
use Rattle.ap_plain.specs.Changes.{changes_of, theory_event}
use Rattle.ap_plain.specs.Constants.{constant_event}
use Rattle.ap_plain.specs.Ends.{Done, admitted, refused_alone}
use Rattle.ap_plain.specs.Events.{kind_of, event_of}
use Rattle.ap_events.specs.Nested.{firsts, agains}
use Rattle.ap_plain.specs.Proposals.{proposed_theorem, proposed_definition, put}
use Rattle.ap_stated.specs.Refusals.{Answer}
use Rattle.ap_stated.specs.Shapes.{Stated, Defined, head_of, statement_of, definition_of, constant_of}
use Rattle.ap_stated.specs.Texts.{title, said_line}

-- the kept worlds of earlier books, by the books' names
abbrev pub Earlier : Type 0
Earlier = List (List ℕ × Shown)

-- (include-book "NAME"). The name prints as it is written.
abbrev pub book_by : Option (List Form) → Option (List ℕ)
book_by (Some (h ∷ s ∷ [])) = string_at (layer_of s)
book_by o = None

abbrev pub book_of : Form → Option (List ℕ)
book_of f = book_by (items_in f)

unfoldable pub include_title : List ℕ → List ℕ
include_title n = codes "INCLUDE-BOOK " ++ n

-- with a book's kept world; a name with another entry here, masks aside, refuses it
abbrev pub include_by : Bool → Shown → List ℕ → Shown → Done
include_by clash w n k =
    cond clash (refused_alone (include_title n) Refusal.NameTaken) (admitted (included w k) (said_line (include_title n) (codes " admitted")) [])

unfoldable pub include_of : Shown → List ℕ → Shown → Done
include_of w n k = include_by (has_clash w.entries k.entries) w n k

abbrev pub included_by : Shown → List ℕ → Option Shown → Done
included_by w n None = refused_alone (include_title n) Refusal.NoSuchBook
included_by w n (Some k) = include_of w n k

unfoldable pub include_event : Earlier → Shown → Option (List ℕ) → Done
include_event earlier w None = refused_alone (codes "INCLUDE-BOOK") Refusal.BadEvent
include_event earlier w (Some n) = included_by w n (lookup_by bytes_eq earlier n)

-- what the symbol at a form's head asks for: a book; events, of a bad shape where they come here; or an event of its own
pub data Asks : Type 0 where
  book : Asks
  events : Asks
  event : Asks

abbrev pub is_holder : Symbol → Bool
is_holder h = symbol_eq h (acl2 (codes "LOCAL")) || symbol_eq h (acl2 (codes "PROGN")) || symbol_eq h (acl2 (codes "ENCAPSULATE"))

unfoldable pub asks_of : Symbol → Asks
asks_of h = cond (symbol_eq h (acl2 (codes "INCLUDE-BOOK"))) book (cond (is_holder h) events event)

-- in the first pass
abbrev pub asked_first : Limits → Earlier → Form → Shown → Symbol → Asks → Done
asked_first limits earlier f w h book = include_event earlier w (book_of f)
asked_first limits earlier f w h events = refused_alone (symbol_text h) Refusal.BadEvent
asked_first limits earlier f w h event = event_of limits w f

abbrev pub headed_first : Limits → Earlier → Form → Shown → Option Symbol → Done
headed_first limits earlier f w None = event_of limits w f
headed_first limits earlier f w (Some h) = asked_first limits earlier f w h (asks_of h)

unfoldable pub first_event : Limits → Earlier → Form → Shown → Done
first_event limits earlier f w = headed_first limits earlier f w (head_of f)

-- Again, without hints and without proofs. Nothing is printed where it is admitted, and the refused line alone where not.
abbrev pub silent_by : Done → Option Shown → Done
silent_by d None = d
silent_by d (Some v) = record { text = []; next = Some v; told = d.told }

abbrev pub silent : Done → Done
silent d = silent_by d d.next

abbrev pub put_again : Shown → List ℕ → Bool → Answer Proposal → Done
put_again w title enabled (Err r) = refused_alone title r
put_again w title enabled (Ok p) = admitted (put enabled w p) [] []

unfoldable pub theorem_again : Shown → Bool → Option Stated → Done
theorem_again w enabled None = refused_alone (codes "DEFTHM") Refusal.BadEvent
theorem_again w enabled (Some s) = put_again w (title (codes "DEFTHM") s.name) enabled (proposed_theorem w s)

unfoldable pub definition_again : Shown → Bool → Option Defined → Done
definition_again w enabled None = refused_alone (codes "DEFUN") Refusal.BadEvent
definition_again w enabled (Some d) = put_again w (title (codes "DEFUN") d.name) enabled (proposed_definition w d)

unfoldable pub kind_again : Shown → Form → Kind → Done
kind_again w f kind.Theorem = theorem_again w true (statement_of f)
kind_again w f kind.DisabledTheorem = theorem_again w false (statement_of f)
kind_again w f kind.Function = definition_again w true (definition_of f)
kind_again w f kind.DisabledFunction = definition_again w false (definition_of f)
kind_again w f kind.Constant = silent (constant_event w (constant_of f))
kind_again w f kind.Theory = silent (theory_event w (changes_of f))

abbrev pub known_again : Shown → Form → Symbol → Option Kind → Done
known_again w f h None = refused_alone (symbol_text h) Refusal.NotSupported
known_again w f h (Some k) = kind_again w f k

abbrev pub asked_again : Earlier → Form → Shown → Symbol → Asks → Done
asked_again earlier f w h book = silent (include_event earlier w (book_of f))
asked_again earlier f w h events = refused_alone (symbol_text h) Refusal.BadEvent
asked_again earlier f w h event = known_again w f h (kind_of h)

abbrev pub headed_again : Earlier → Form → Shown → Option Symbol → Done
headed_again earlier f w None = refused_alone (codes "FORM") Refusal.NotSupported
headed_again earlier f w (Some h) = asked_again earlier f w h (asks_of h)

unfoldable pub again_event : Earlier → Form → Shown → Done
again_event earlier f w = headed_again earlier f w (head_of f)

-- What a form of a book comes to, and what it comes to when it is done again. No text is read in which more than 400
-- lists and marks are nested.
abbrev pub worked : Limits → Earlier → Shown → Form → Done
worked limits earlier w f = firsts (first_event limits earlier) (again_event earlier) 400 f w

abbrev pub worked_again : Earlier → Shown → Form → Done
worked_again earlier w f = agains (again_event earlier) 400 f w
