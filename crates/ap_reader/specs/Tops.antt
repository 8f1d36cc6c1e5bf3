-- What a form is at its top, by what its parts are.
use Rattle.std.specs.Prelude.{ℕ, Bool, false, cond, ◌&&◌, List, [], ◌∷◌, Option, Some, None, codes}
use Rattle.ap_value.specs.declared.symbol.Symbol.{Symbol}
use Rattle.ap_value.specs.Values.{bytes_eq, symbol_eq, acl2}
use Rattle.ap_reader.specs.declared.form.Form.{Form}
use Rattle.ap_reader.specs.declared.form.Body.{Body, out-Body}
use Rattle.ap_reader.specs.declared.form.Body.TheOpen.{Body-F}
use Rattle.ap_reader.specs.declared.tops.FormRef.{FormRef}
use Rattle.ap_reader.specs.declared.tops.FormRef.TheVariants as lent

-- one level of a form
abbrev pub Layer : Type 0
Layer = Body-F Body Form

abbrev pub layer_of : Form → Layer
layer_of f = out-Body f.body

-- the level that is lent
abbrev pub as_layer : FormRef → Layer
as_layer (lent.Int n) = Body-F.Int n
as_layer (lent.Chr c) = Body-F.Chr c
as_layer (lent.Str s) = Body-F.Str s.now
as_layer (lent.Sym s) = Body-F.Sym s.now
as_layer (lent.List fs) = Body-F.List fs.now
as_layer (lent.Dotted fs f) = Body-F.Dotted fs.now f.now
as_layer (lent.Quoted f) = Body-F.Quoted f.now
as_layer (lent.Quasi f) = Body-F.Quasi f.now
as_layer (lent.Comma f) = Body-F.Comma f.now
as_layer (lent.CommaAt f) = Body-F.CommaAt f.now

-- the symbol that it is, as it is written: the empty list is none
abbrev pub symbol_at : Layer → Option Symbol
symbol_at (Body-F.Sym s) = Some s
symbol_at l = None

-- the bytes of the string that it is
abbrev pub string_at : Layer → Option (List ℕ)
string_at (Body-F.Str s) = Some s
string_at l = None

-- the forms of a list, and none of `nil`
abbrev pub items_at : Layer → Option (List Form)
items_at (Body-F.List fs) = Some fs
items_at (Body-F.Sym s) = cond (symbol_eq s (acl2 (codes "NIL"))) (Some []) None
items_at l = None

abbrev pub items_in : Form → Option (List Form)
items_in f = items_at (layer_of f)

-- it is the symbol of package ACL2 with this name
abbrev pub symbol_by : List ℕ → Layer → Bool
symbol_by n (Body-F.Sym s) = symbol_eq s (acl2 n)
symbol_by n l = false

abbrev pub is_symbol : List ℕ → Form → Bool
is_symbol n f = symbol_by n (layer_of f)

-- it is the keyword of this name
abbrev pub keyword_by : List ℕ → Option Symbol → Bool
keyword_by n None = false
keyword_by n (Some s) = s.keyword && bytes_eq s.name n

abbrev pub is_keyword : List ℕ → Form → Bool
is_keyword n f = keyword_by n (symbol_at (layer_of f))

-- x of 'x and of (quote x)
abbrev pub quoted_at : Layer → Option Form
quoted_at (Body-F.Quoted f) = Some f
quoted_at (Body-F.List (h ∷ f ∷ [])) = cond (is_symbol (codes "QUOTE") h) (Some f) None
quoted_at l = None

abbrev pub quoted_in : Form → Option Form
quoted_in f = quoted_at (layer_of f)
