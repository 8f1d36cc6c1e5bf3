-- What the parts of an event's form are: symbols, keywords, `nil`; and what goes on where such parts are there.
use Rattle.std.specs.Prelude.{ℕ, Bool, true, false, ◌||◌, List, [], ◌∷◌, Option, Some, None}
use Rattle.ap_reader.specs.declared.form.Form.{Form}
use Rattle.ap_reader.specs.Tops.{items_in}
pub use Rattle.ap_reader.specs.Tops.{symbol_at, is_keyword}

-- `nil`, or the empty list, which is the same
abbrev pub empty_by : Option (List Form) → Bool
empty_by (Some []) = true
empty_by o = false

abbrev pub is_nil : Form → Bool
is_nil f = empty_by (items_in f)

-- a keyword of one of these names
abbrev pub any_keyword : List (List ℕ) → Form → Bool
any_keyword [] f = false
any_keyword (n ∷ ns) f = is_keyword n f || any_keyword ns f

-- handed on, where both are there
abbrev pub both : {A B C : Type 0} → (A → B → Option C) → Option A → Option B → Option C
both g None o = None
both g (Some a) None = None
both g (Some a) (Some b) = g a b

abbrev pub and_then : {A B : Type 0} → Option A → (A → Option B) → Option B
and_then None g = None
and_then (Some a) g = g a
