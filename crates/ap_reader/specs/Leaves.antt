-- Forms without parts: strings, characters, numbers and symbols, each from its token's bytes.
use Rattle.std.specs.Prelude.{ℕ, ◌||◌, ◌==◌, if◌then◌else◌, false, List, [], ◌∷◌, drop, Option, Some, None, Result, Ok, Err, ℤ}
use Rattle.ap_value.specs.declared.symbol.Symbol.{Symbol}
use Rattle.ap_reader.specs.declared.fault.ReadKind.{ReadKind}
use Rattle.ap_reader.specs.declared.fault.ReadKind.TheVariants as faults
use Rattle.ap_reader.specs.declared.form.Body.{Body}
use Rattle.ap_reader.specs.declared.form.Body.TheVariants as body
use Rattle.ap_reader.specs.declared.number.Shape.{Shape}
use Rattle.ap_reader.specs.declared.number.Shape.TheVariants as shapes
use Rattle.ap_reader.specs.declared.leaf.Leaf.{Leaf}
use Rattle.ap_reader.specs.declared.leaf.Leaf.TheVariants as leaves
use Rattle.ap_reader.specs.Numbers.{shape_of, integer_of}
use Rattle.ap_reader.specs.Names.{symbol_of}
use Rattle.ap_reader.specs.Strings.{unquoted, code_of}

-- an integer, where it fits
abbrev pub fitted : Option ℤ → Result Body ReadKind
fitted None = Err faults.IntegerTooWide
fitted (Some n) = Ok (body.Int n)

-- a character by its code
abbrev pub chr_of : Result ℕ ReadKind → Result Body ReadKind
chr_of (Err k) = Err k
chr_of (Ok c) = Ok (body.Chr c)

-- a symbol, where the name has one
abbrev pub sym_of : Result Symbol ReadKind → Result Body ReadKind
sym_of (Err k) = Err k
sym_of (Ok s) = Ok (body.Sym s)

-- the base that the byte after `#` says
abbrev pub base_of : List ℕ → ℕ
base_of [] = 2
base_of (c ∷ t) = if c == 120 || c == 88 then 16 else (if c == 111 || c == 79 then 8 else 2)

-- an atom, by its shape
abbrev pub atom_of : Shape → List ℕ → Result Body ReadKind
atom_of shapes.Integer t = fitted (integer_of 10 t)
atom_of shapes.Fraction t = Err faults.NotInteger
atom_of shapes.Dots t = Err faults.BadDot
atom_of shapes.Name t = sym_of (symbol_of t)

-- what the bytes of a token are
unfoldable pub leaf_of : Leaf → List ℕ → Result Body ReadKind
leaf_of leaves.Text t = Ok (body.Str (unquoted false (drop 1 t)))
leaf_of leaves.Character t = chr_of (code_of (drop 2 t))
leaf_of leaves.Based t = fitted (integer_of (base_of (drop 1 t)) (drop 2 t))
leaf_of leaves.Atom t = atom_of (shape_of t) t
