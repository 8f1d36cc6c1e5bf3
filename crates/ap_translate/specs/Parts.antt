-- What a form is at its top. The empty list and the symbol `nil` are one.
use Rattle.std.specs.Prelude.{ℤ, Bool, false, [], ◌∷◌, Option, Some, None, codes}
use Rattle.ap_value.specs.declared.symbol.Symbol.{Symbol}
use Rattle.ap_world.specs.Names.{nil_name}
use Rattle.ap_reader.specs.declared.form.Form.{Form}
use Rattle.ap_reader.specs.declared.form.Body.TheOpen.{Body-F}
pub use Rattle.ap_reader.specs.Tops.{Layer, layer_of, items_in, is_symbol}
use Rattle.ap_translate.specs.declared.parts.Name.{Name}
use Rattle.ap_translate.specs.declared.parts.Name.TheVariants as names

-- the symbol that it is
abbrev pub symbol_at : Layer → Option Symbol
symbol_at (Body-F.Sym s) = Some s
symbol_at (Body-F.List []) = Some nil_name
symbol_at l = None

abbrev pub symbol_in : Form → Option Symbol
symbol_in f = symbol_at (layer_of f)

-- as the program sees it
abbrev pub name_seen : Name → Option Symbol
name_seen names.Nil = Some nil_name
name_seen (names.Symbol s) = Some s.now
name_seen names.Other = None

-- the integer that it is
abbrev pub integer_at : Layer → Option ℤ
integer_at (Body-F.Int n) = Some n
integer_at l = None

abbrev pub integer_in : Form → Option ℤ
integer_in f = integer_at (layer_of f)

-- (declare ..)
abbrev pub declare_at : Layer → Bool
declare_at (Body-F.List (h ∷ fs)) = is_symbol (codes "DECLARE") h
declare_at l = false

abbrev pub is_declare : Form → Bool
is_declare f = declare_at (layer_of f)
