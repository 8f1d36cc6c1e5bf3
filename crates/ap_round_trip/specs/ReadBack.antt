-- The value that a form is within a quote, and the limits within which a printed value is read.
use Rattle.std.specs.Prelude.{◌≡◌, ℕ, ◌+◌, max, List, [], ◌∷◌, Option, Some, None, codes}
use Rattle.ap_value.specs.declared.value.Value.{Value, fold-Value, Int, Chr, Str, Sym, Cons}
use Rattle.ap_value.specs.declared.value.Value.TheOpen.{Value-F}
use Rattle.ap_value.specs.Values.{acl2}
use Rattle.ap_tokens.specs.Gaps.{at}
use Rattle.ap_reader.specs.declared.form.Form.{Form, fold-Form}
use Rattle.ap_reader.specs.declared.form.Body.TheVariants as body
use Rattle.ap_reader.specs.Heads.{made}
use Rattle.ap_reader.specs.Grammar.{Reads}
use Rattle.ap_reader.specs.declared.form.Body.TheOpen.{Body-F, Form-F}

-- a list's last part, where nothing else is written
abbrev pub nil : Value
nil = Sym (acl2 (codes "NIL"))

-- a cons, where both parts have a value
abbrev pub cons_of : Option Value → Option Value → Option Value
cons_of (Some u) (Some v) = Some (Cons u v)
cons_of _ _ = None

-- conses of these values and a last one
abbrev pub in_front : List (Option Value) → Option Value → Option Value
in_front [] last = last
in_front (v ∷ vs) last = cons_of v (in_front vs last)

-- the value of one level of a form, its parts taken as valued; a backquote and a comma have none here
abbrev pub body_value : Body-F (Option Value) (Option Value) → Option Value
body_value (Body-F.Int n) = Some (Int n)
body_value (Body-F.Chr c) = Some (Chr c)
body_value (Body-F.Str s) = Some (Str s)
body_value (Body-F.Sym s) = Some (Sym s)
body_value (Body-F.List vs) = in_front vs (Some nil)
body_value (Body-F.Dotted vs v) = in_front vs v
body_value (Body-F.Quoted v) = in_front (Some (Sym (acl2 (codes "QUOTE"))) ∷ v ∷ []) (Some nil)
body_value (Body-F.Quasi v) = None
body_value (Body-F.Comma v) = None
body_value (Body-F.CommaAt v) = None

-- a form's place is no matter
abbrev pub form_value : Form-F (Option Value) (Option Value) → Option Value
form_value f = f.body

-- the value of a form within a quote
abbrev pub quoted_value : Form → Option Value
quoted_value = fold-Form (Option Value) (Option Value) body_value form_value

-- how many lists stand within each other in a value's text, and in its text as the rest of a list
pub record Nested : Type 0 where
  pub alone : ℕ
  pub rest : ℕ

abbrev pub nested_step : Value-F Nested → Nested
nested_step (Value-F.Int n) = record { alone = 0; rest = 0 }
nested_step (Value-F.Chr c) = record { alone = 0; rest = 0 }
nested_step (Value-F.Str s) = record { alone = 0; rest = 0 }
nested_step (Value-F.Sym s) = record { alone = 0; rest = 0 }
nested_step (Value-F.Cons a b) = record { alone = 1 + max a.alone b.rest; rest = max a.alone b.rest }

abbrev pub nested : Value → Nested
nested = fold-Value Nested nested_step

-- how many lists stand within each other in a value's text
abbrev pub nesting : Value → ℕ
nesting v = (nested v).alone

-- a text is one form, whose value within a quote is v
abbrev pub IsReadAs : List ℕ → Value → Type 0
IsReadAs t v = (f : Form) × (Reads (at 0 t) (f ∷ []) × (quoted_value f ≡ Some v))

-- a text is one quoted form, whose value is v
abbrev pub IsReadQuoted : List ℕ → Value → Type 0
IsReadQuoted t v = (f : Form) × (Reads (at 0 t) (made 0 (body.Quoted f) ∷ []) × (quoted_value f ≡ Some v))
