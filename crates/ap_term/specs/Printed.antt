-- The printed bytes of values, terms and clauses.
use Rattle.std.specs.Prelude.{ℕ, Bool, ◌==◌, ◌||◌, List, [], ◌∷◌, ◌++◌, codes, if◌then◌else◌}
use Rattle.std.specs.Fmt.{signed_decimal}
use Rattle.ap_value.specs.declared.symbol.Symbol.{Symbol}
use Rattle.ap_value.specs.declared.value.Value.{Value, fold-Value}
use Rattle.ap_value.specs.declared.value.Value.TheOpen.{Value-F}
use Rattle.ap_value.specs.Values.{acl2, symbol_eq}
use Rattle.ap_term.specs.Atoms.{reads_back}
use Rattle.ap_term.specs.declared.term.Term.{Term, fold-Term}
use Rattle.ap_term.specs.declared.term.Term.TheOpen.{Term-F}

-- a byte between two closing ones: `\` stands before the closing byte and before `\`
abbrev pub escaped_byte : ℕ → ℕ → List ℕ
escaped_byte close c = if (c == close || c == 92) then 92 ∷ c ∷ [] else c ∷ []

abbrev pub escaped : ℕ → List ℕ → List ℕ
escaped close [] = []
escaped close (c ∷ cs) = escaped_byte close c ++ escaped close cs

-- a text between two closing bytes, as a string between `"` and a name between bars
abbrev pub quoted : ℕ → List ℕ → List ℕ
quoted close cs = close ∷ escaped close cs ++ close ∷ []

-- a keyword has `:` before it
unfoldable pub colon_text : Bool → List ℕ
colon_text keyword = if keyword then codes ":" else []

-- a symbol that wouldn't be read back stands between bars
unfoldable pub symbol_text : Symbol → List ℕ
symbol_text s = colon_text s.keyword ++ (if reads_back s then s.name else quoted 124 s.name)

-- a character is its byte, but for five that have names
unfoldable pub character_name : ℕ → List ℕ
character_name c =
    if c == 32 then codes "Space"
    else (if c == 10 then codes "Newline"
    else (if c == 9 then codes "Tab"
    else (if c == 12 then codes "Page"
    else (if c == 127 then codes "Rubout"
    else c ∷ []))))

unfoldable pub character_text : ℕ → List ℕ
character_text c = codes "#\\" ++ character_name c

-- the symbol `nil` of package ACL2
unfoldable pub is_nil : Symbol → Bool
is_nil s = symbol_eq s (acl2 (codes "NIL"))

-- a value on its own, and as the rest of a list whose first parts are written
pub record Written : Type 0 where
  pub alone : List ℕ
  pub rest : List ℕ

-- the rest of a list that isn't a cons stands after a dot
unfoldable pub dotted_rest : List ℕ → List ℕ
dotted_rest text = codes " . " ++ text ++ codes ")"

abbrev pub atom_written : List ℕ → Written
atom_written text = record { alone = text; rest = dotted_rest text }

-- `nil` ends a list
abbrev pub symbol_written : Symbol → Written
symbol_written s = record { alone = symbol_text s; rest = if is_nil s then codes ")" else dotted_rest (symbol_text s) }

-- a cons is a list of its first part and the parts of its rest
abbrev pub cons_written : Written → Written → Written
cons_written a b = record { alone = codes "(" ++ a.alone ++ b.rest; rest = codes " " ++ a.alone ++ b.rest }

abbrev pub written_step : Value-F Written → Written
written_step (Value-F.Int n) = atom_written (signed_decimal n)
written_step (Value-F.Chr c) = atom_written (character_text c)
written_step (Value-F.Str s) = atom_written (quoted 34 s)
written_step (Value-F.Sym s) = symbol_written s
written_step (Value-F.Cons a b) = cons_written a b

abbrev pub written : Value → Written
written = fold-Value Written written_step

-- the printed bytes of a value
abbrev pub value_text : Value → List ℕ
value_text v = (written v).alone

-- the printed bytes of a value as the rest of a list
abbrev pub rest_text : Value → List ℕ
rest_text v = (written v).rest

-- texts, each after a space
abbrev pub spaced : List (List ℕ) → List ℕ
spaced [] = []
spaced (t ∷ ts) = codes " " ++ t ++ spaced ts

-- a head and its parts as a list
unfoldable pub list_text : List ℕ → List (List ℕ) → List ℕ
list_text head ts = codes "(" ++ head ++ spaced ts ++ codes ")"

unfoldable pub quote_text : List ℕ → List ℕ
quote_text text = codes "'" ++ text

-- a term in translated form: a variable by its name, a constant after a quote mark, a call as a list
abbrev pub term_step : Term-F (List ℕ) → List ℕ
term_step (Term-F.Var x) = symbol_text x
term_step (Term-F.Quote v) = quote_text (value_text v)
term_step (Term-F.Call f ts) = list_text (symbol_text f) ts

-- the printed bytes of a term
abbrev pub term_text : Term → List ℕ
term_text = fold-Term (List ℕ) term_step

-- the printed bytes of a clause, by those of its literals: NIL, its one literal, or their disjunction
unfoldable pub clause_text : List (List ℕ) → List ℕ
clause_text [] = codes "NIL"
clause_text (l ∷ []) = l
clause_text (l ∷ m ∷ ms) = list_text (codes "OR") (l ∷ m ∷ ms)
