-- How far the parts of a text go, by cases on what the text begins with.
use Rattle.std.specs.Prelude.{ℕ, ◌+◌, ◌-◌, Bool, true, false, not, ◌&&◌, ◌||◌, ◌==◌, if◌then◌else◌, List, [], ◌∷◌, Option, Some, None, option_map}
use Rattle.ap_tokens.specs.declared.scan.Mark.{Mark}
use Rattle.ap_tokens.specs.declared.scan.Mark.TheVariants.{Close, Open, Byte}
use Rattle.ap_tokens.specs.declared.scan.Part.{Part}
use Rattle.ap_tokens.specs.declared.scan.Part.TheVariants.{Escape, Bar, Stop, Plain}
use Rattle.ap_tokens.specs.Bytes.{ends_atom}

-- so many bytes further
abbrev pub more : ℕ → Option ℕ → Option ℕ
more k = option_map (λ n. k + n)

-- a line, with the line feed that ends it
abbrev pub line_len : List ℕ → ℕ
line_len [] = 0
line_len (c ∷ t) = if c == 10 then 1 else 1 + line_len t

-- what no blank and no byte that ends an atom stands in
abbrev pub run_len : List ℕ → ℕ
run_len [] = 0
run_len (c ∷ t) = if ends_atom c then 0 else 1 + run_len t

-- what is left of a string, with the quote that ends it; `taken`: the next byte is taken as it is
abbrev pub string_len : Bool → List ℕ → Option ℕ
string_len taken [] = None
string_len true (c ∷ t) = more 1 (string_len false t)
string_len false (c ∷ t) = if c == 34 then Some 1 else more 1 (string_len (c == 92) t)

-- what a text begins with, within a block comment
abbrev pub mark_by : Bool → Bool → Mark
mark_by true _ = Close
mark_by false true = Open
mark_by false false = Byte

abbrev pub mark_of : List ℕ → Mark
mark_of (c ∷ d ∷ t) = mark_by (c == 124 && d == 35) (c == 35 && d == 124)
mark_of _ = Byte

abbrev pub at_mark : {A : Type 0} → Mark → A → A → A → A
at_mark Close a b c = a
at_mark Open a b c = b
at_mark Byte a b c = c

-- what is left of a block comment within which `deep` others are open, with the `|#` that ends it
abbrev pub comment_len : ℕ → List ℕ → Option ℕ
comment_len deep [] = None
comment_len deep (c ∷ []) = None
comment_len deep (c ∷ d ∷ t) =
    at_mark (mark_of (c ∷ d ∷ t)) (if deep == 0 then Some 2 else more 2 (comment_len (deep - 1) t))
    (more 2 (comment_len (deep + 1) t)) (more 1 (comment_len deep (d ∷ t)))

-- what a byte is to an atom; `bar`: it stands within bars
abbrev pub part_by : Bool → Bool → Bool → Part
part_by true _ _ = Escape
part_by false true _ = Bar
part_by false false true = Stop
part_by false false false = Plain

abbrev pub part_of : Bool → ℕ → Part
part_of bar c = part_by (c == 92) (c == 124) (not bar && ends_atom c)

abbrev pub at_part : {A : Type 0} → Part → A → A → A → A → A
at_part Escape a b c d = a
at_part Bar a b c d = b
at_part Stop a b c d = c
at_part Plain a b c d = d

-- what is left of an atom; `taken`: the next byte is taken as it is. None: the text ends within bars or after a backslash
abbrev pub atom_len : Bool → Bool → List ℕ → Option ℕ
atom_len bar taken [] = if bar || taken then None else Some 0
atom_len bar true (c ∷ t) = more 1 (atom_len bar false t)
atom_len bar false (c ∷ t) =
    at_part (part_of bar c) (more 1 (atom_len bar true t)) (more 1 (atom_len (not bar) false t)) (Some 0) (more 1 (atom_len bar false t))
