-- What forms hold, as it is written in them: how many single events, and which books these include, in their order.
use Rattle.std.specs.Prelude.{ℕ, zero, suc, ◌+◌, cond, List, [], ◌∷◌, ◌++◌, Option, Some, None, codes}
use Rattle.ap_reader.specs.declared.form.Form.{Form}
use Rattle.ap_reader.specs.Tops.{layer_of, string_at, items_in, is_symbol}
use Rattle.ap_events.specs.declared.held.Held.{Held}
use Rattle.ap_events.specs.Nested.{Nesting, plain, hidden, group, closed, nesting_of}

abbrev pub as_list : Option (List ℕ) → List (List ℕ)
as_list None = []
as_list (Some n) = n ∷ []

-- the book that a single event includes
abbrev pub named_at : Option (List Form) → Option (List ℕ)
named_at (Some (h ∷ s ∷ [])) = cond (is_symbol (codes "INCLUDE-BOOK") h) (string_at (layer_of s)) None
named_at o = None

abbrev pub named_in : Form → Option (List ℕ)
named_in f = named_at (items_in f)

-- one single event more
abbrev pub with_single : Form → Held → Held
with_single f h = record { events = h.events + 1; books = h.books ++ as_list (named_in f) }

-- forms one after another
abbrev pub with_all : (Form → Held → Held) → List Form → Held → Held
with_all add [] h = h
with_all add (f ∷ fs) h = with_all add fs (add f h)

-- a form by what it holds, in which at most n events hold each other
abbrev pub with_nesting : (Form → Held → Held) → Form → Nesting → Held → Held
with_nesting add f plain h = with_single f h
with_nesting add f (hidden g) h = add g h
with_nesting add f (group fs) h = with_all add fs h
with_nesting add f (closed fs) h = with_all add fs h

unfoldable pub with_form : ℕ → Form → Held → Held
with_form zero f h = with_single f h
with_form (suc n) f h = with_nesting (with_form n) f (nesting_of f) h

abbrev pub held_in : List Form → Held
held_in fs = with_all (with_form 400) fs (record { events = 0; books = [] })
