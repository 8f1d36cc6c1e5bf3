-- The bytes of a string, and the code of a character.
use Rattle.std.specs.Prelude.{ℕ, Bool, true, false, ◌==◌, if◌then◌else◌, List, [], ◌∷◌, Option, Some, None, Result, Ok, Err}
use Rattle.ap_tokens.specs.Hashes.{char_name}
use Rattle.ap_reader.specs.declared.fault.ReadKind.{ReadKind}
use Rattle.ap_reader.specs.declared.fault.ReadKind.TheVariants as faults

-- the bytes of a string after its first quote, up to the quote that ends it; `escape`: the next byte is taken as it is
abbrev pub unquoted : Bool → List ℕ → List ℕ
unquoted escape [] = []
unquoted true (c ∷ t) = c ∷ unquoted false t
unquoted false (c ∷ t) = if c == 34 then [] else (if c == 92 then unquoted true t else c ∷ unquoted false t)

-- a name's code
abbrev pub coded : Option ℕ → Result ℕ ReadKind
coded None = Err faults.BadCharName
coded (Some c) = Ok c

-- the code of a character after `#\`: one byte is its own code, and more are a name
abbrev pub code_of : List ℕ → Result ℕ ReadKind
code_of (c ∷ []) = Ok c
code_of t = coded (char_name t)
