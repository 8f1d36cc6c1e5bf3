-- The first form of a book: (in-package "ACL2").
use Rattle.std.specs.Prelude.{ℕ, Bool, false, ◌&&◌, List, [], ◌∷◌, codes}
use Rattle.ap_value.specs.Values.{bytes_eq}
use Rattle.ap_reader.specs.declared.form.Form.{Form}
use Rattle.ap_reader.specs.declared.form.Body.TheOpen.{Body-F}
use Rattle.ap_reader.specs.Tops.{Layer, layer_of, is_symbol}

-- a string of these bytes
abbrev pub says : List ℕ → Layer → Bool
says n (Body-F.Str s) = bytes_eq s n
says n l = false

abbrev pub package_at : Layer → Bool
package_at (Body-F.List (h ∷ n ∷ [])) = is_symbol (codes "IN-PACKAGE") h && says (codes "ACL2") (layer_of n)
package_at l = false

abbrev pub is_package : Form → Bool
is_package f = package_at (layer_of f)
