-- Names of symbols: bytes that are escaped or not, packages, and upper case.
use Rattle.std.specs.Prelude.{ℕ, ◌≤◌, Bool, true, false, not, ◌&&◌, ◌||◌, ◌==◌, if◌then◌else◌, List, [], ◌∷◌, map, drop, Result, Ok, Err}
use Rattle.std.specs.Char.{to_ascii_uppercase}
use Rattle.ap_value.specs.declared.symbol.Symbol.{Symbol}
use Rattle.ap_reader.specs.declared.name.Letter.{Letter}
use Rattle.ap_reader.specs.declared.name.Package.{Package}
use Rattle.ap_reader.specs.declared.name.Package.TheVariants as packages
use Rattle.ap_reader.specs.declared.fault.ReadKind.{ReadKind}
use Rattle.ap_reader.specs.declared.fault.ReadKind.TheVariants as faults

-- a byte that is escaped, as it is
abbrev pub taken : ℕ → Letter
taken c = record { byte = c; escaped = true }

-- a byte that nothing escapes, in upper case
abbrev pub raised : ℕ → Letter
raised c = record { byte = to_ascii_uppercase c; escaped = false }

-- a byte that is neither a bar nor a backslash; `bar`: it stands within bars
abbrev pub plain : Bool → ℕ → Letter
plain true c = taken c
plain false c = raised c

-- what an atom has for its bytes: bars and backslashes are left out, and what they escape is as it is
abbrev pub letters_of : Bool → Bool → List ℕ → List Letter
letters_of bar escape [] = []
letters_of bar true (c ∷ t) = taken c ∷ letters_of bar false t
letters_of bar false (c ∷ t) =
    if c == 92 then letters_of bar true t else (if c == 124 then letters_of (not bar) false t else plain bar c ∷ letters_of bar false t)

-- the letter is this byte, and not escaped
abbrev pub is_plain : ℕ → Letter → Bool
is_plain c l = l.byte == c && not l.escaped

-- the name begins with `:`
abbrev pub is_keyword : List Letter → Bool
is_keyword [] = false
is_keyword (l ∷ ls) = is_plain 58 l

-- the name begins with `ACL2::`
abbrev pub has_package : List Letter → Bool
has_package (a ∷ b ∷ c ∷ d ∷ e ∷ f ∷ ls) =
    is_plain 65 a && is_plain 67 b && is_plain 76 c && is_plain 50 d && is_plain 58 e && is_plain 58 f
has_package _ = false

-- a `:` is among them
abbrev pub has_colon : List Letter → Bool
has_colon [] = false
has_colon (l ∷ ls) = is_plain 58 l || has_colon ls

-- what says the package of a name
abbrev pub package_by : Bool → Bool → Package
package_by true _ = packages.Keyword
package_by false true = packages.Named
package_by false false = packages.Home

-- what says the package of these letters
abbrev pub package_of : List Letter → Package
package_of ls = package_by (is_keyword ls) (has_package ls)

-- a name of this length has what says the package
abbrev pub HasRoom : ℕ → Package → Type 0
HasRoom n packages.Keyword = 1 ≤ n
HasRoom n packages.Named = 6 ≤ n
HasRoom n packages.Home = Unit {0}

-- the symbol with these letters, after what says its package
abbrev pub named : Bool → List Letter → Result Symbol ReadKind
named keyword ls = if has_colon ls then Err faults.BadPackage else Ok (record { keyword = keyword; name = map (λ l. l.byte) ls })

-- the symbol without what says its package
abbrev pub symbol_by : Package → List Letter → Result Symbol ReadKind
symbol_by packages.Keyword ls = named true (drop 1 ls)
symbol_by packages.Named ls = named false (drop 6 ls)
symbol_by packages.Home ls = named false ls

-- the symbol that an atom is
unfoldable pub symbol_of : List ℕ → Result Symbol ReadKind
symbol_of t = symbol_by (package_of (letters_of false false t)) (letters_of false false t)
