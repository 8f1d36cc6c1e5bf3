-- The shapes of events: `defthm`, `defun` and `defconst`.
use Rattle.std.specs.Prelude.{ℕ, Bool, true, false, cond, ◌&&◌, ◌||◌, List, [], ◌∷◌, ◌++◌, Option, Some, None, is_some, option_map, codes}
use Rattle.std.specs.List.{list_all}
use Rattle.ap_value.specs.declared.symbol.Symbol.{Symbol}
use Rattle.ap_reader.specs.declared.form.Form.{Form}
use Rattle.ap_reader.specs.declared.form.Body.TheOpen.{Body-F}
use Rattle.ap_reader.specs.Tops.{Layer, layer_of, symbol_at, string_at, items_in, is_symbol, is_keyword}
use Rattle.ap_stated.specs.declared.shapes.Choices.{Choices}
use Rattle.ap_stated.specs.declared.shapes.Statement.{Statement}
use Rattle.ap_stated.specs.declared.shapes.Declared.{Declared}
use Rattle.ap_stated.specs.declared.shapes.Preamble.{Preamble}
use Rattle.ap_stated.specs.declared.shapes.Definition.{Definition}
use Rattle.ap_stated.specs.declared.shapes.Constant.{Constant}
use Rattle.ap_translate.specs.Parts.{symbol_in}
use Rattle.ap_translate.specs.Names.{may_name, may_name_constant}
use Rattle.ap_hints.specs.Forms.{is_nil, any_keyword, both, and_then}

-- the symbol at the head of a list, or of a dotted one
abbrev pub first_symbol : List Form → Option Symbol
first_symbol [] = None
first_symbol (f ∷ fs) = symbol_at (layer_of f)

abbrev pub head_at : Layer → Option Symbol
head_at (Body-F.List fs) = first_symbol fs
head_at (Body-F.Dotted fs f) = first_symbol fs
head_at l = None

abbrev pub head_of : Form → Option Symbol
head_of f = head_at (layer_of f)

-- it is a string
abbrev pub is_string : Form → Bool
is_string f = is_some (string_at (layer_of f))

-- a name of a function or a theorem, and one of a constant
abbrev pub name_by : (Symbol → Bool) → Option Symbol → Option Symbol
name_by good None = None
name_by good (Some s) = cond (good s) (Some s) None

abbrev pub name_in : Form → Option Symbol
name_in f = name_by may_name (symbol_at (layer_of f))

abbrev pub constant_name_in : Form → Option Symbol
constant_name_in f = name_by may_name_constant (symbol_at (layer_of f))

-- pairs of one of these keywords and a value
abbrev pub are_keyed : List (List ℕ) → List Form → Bool
are_keyed ns [] = true
are_keyed ns (k ∷ []) = false
are_keyed ns (k ∷ v ∷ fs) = any_keyword ns k && are_keyed ns fs

-- the values that follow a keyword
abbrev pub given : List ℕ → List Form → List Form
given n [] = []
given n (k ∷ []) = []
given n (k ∷ v ∷ fs) = cond (is_keyword n k) (v ∷ given n fs) (given n fs)

-- what is there, as a list
abbrev pub in_list : {A : Type 0} → Option A → List A
in_list None = []
in_list (Some a) = a ∷ []

-- one value at most
abbrev pub at_most_one : {A : Type 0} → List A → Option (Option A)
at_most_one [] = Some None
at_most_one (v ∷ []) = Some (Some v)
at_most_one (v ∷ w ∷ vs) = None

abbrev pub given_once : List ℕ → List Form → Option (Option Form)
given_once n fs = at_most_one (given n fs)

-- `:otf-flg` and `:verify-guards` take `t` or `nil`, and are `nil` where they aren't given
abbrev pub truth_in : Option Form → Option Bool
truth_in None = Some false
truth_in (Some f) = cond (is_symbol (codes "T") f) (Some true) (cond (is_nil f) (Some false) None)

-- Theorems: (defthm NAME TERM [:rule-classes C] [:hints H] [:otf-flg B])

-- what `:rule-classes` takes: `nil`, a class, or a list of classes
abbrev pub is_class : Form → Bool
is_class f = is_keyword (codes "REWRITE") f || is_keyword (codes "LINEAR") f || is_keyword (codes "TYPE-PRESCRIPTION") f

abbrev pub classes_by : Option (List Form) → Form → Bool
classes_by (Some fs) f = list_all is_class fs
classes_by None f = is_class f

abbrev pub are_classes : Form → Bool
are_classes f = classes_by (items_in f) f

abbrev pub none_or : (Form → Bool) → Option Form → Bool
none_or good None = true
none_or good (Some f) = good f

-- what follows a theorem's term: its classes and its hints, if they are given, and whether `:otf-flg` is
pub record Chosen : Type 0 where
  pub classes : Option Form
  pub hints : Option Form
  pub otf : Bool

abbrev pub as_chosen : Choices → Chosen
as_chosen c = record { classes = option_map (λ f. f.now) c.classes; hints = option_map (λ f. f.now) c.hints; otf = c.otf }

-- None: it isn't of the shape
abbrev pub chosen_by : Option Form → Option Form → Bool → Option Chosen
chosen_by classes hints otf = cond (none_or are_classes classes) (Some (record { classes = classes; hints = hints; otf = otf })) None

abbrev pub chosen_of : List Form → Option Chosen
chosen_of fs =
    cond (are_keyed (codes "RULE-CLASSES" ∷ codes "HINTS" ∷ codes "OTF-FLG" ∷ []) fs)
    (and_then (given_once (codes "RULE-CLASSES") fs) (λ classes.
    and_then (given_once (codes "HINTS") fs) (λ hints.
    and_then (and_then (given_once (codes "OTF-FLG") fs) truth_in) (λ otf. chosen_by classes hints otf))))
    None

-- a theorem as its event states it
pub record Stated : Type 0 where
  pub name : Symbol
  pub term : Form
  pub chosen : Chosen

abbrev pub as_stated : Statement → Stated
as_stated s = record { name = s.name.now; term = s.term.now; chosen = as_chosen s.choices }

abbrev pub stated_by : Form → Symbol → Chosen → Option Stated
stated_by u n chosen = Some (record { name = n; term = u; chosen = chosen })

abbrev pub statement_of_parts : Option (List Form) → Option Stated
statement_of_parts (Some (h ∷ n ∷ u ∷ fs)) = both (stated_by u) (name_in n) (chosen_of fs)
statement_of_parts o = None

abbrev pub statement_of : Form → Option Stated
statement_of f = statement_of_parts (items_in f)

-- Functions: (defun NAME (V ..) [STRING] [(declare ..)] BODY)

-- what the `xargs` of a definition say
pub record Xargs : Type 0 where
  pub measure : Option Form
  pub hints : Option Form
  pub guard : Option Form
  pub verify : Bool
  pub otf : Bool

abbrev pub as_xargs : Declared → Xargs
as_xargs x = record {
  measure = option_map (λ f. f.now) x.measure;
  hints = option_map (λ f. f.now) x.hints;
  guard = option_map (λ f. f.now) x.guard;
  verify = x.verify;
  otf = x.otf;
}

abbrev pub no_xargs : Xargs
no_xargs = record { measure = None; hints = None; guard = None; verify = false; otf = false }

abbrev pub verified_xargs : Option Form → Option Form → Option Form → Bool → Bool → Xargs
verified_xargs measure hints guard verify otf = record { measure = measure; hints = hints; guard = guard; verify = verify; otf = otf }

abbrev pub xargs_of : List Form → Option Xargs
xargs_of fs =
    cond (are_keyed (codes "MEASURE" ∷ codes "HINTS" ∷ codes "GUARD" ∷ codes "VERIFY-GUARDS" ∷ codes "OTF-FLG" ∷ []) fs)
    (and_then (given_once (codes "MEASURE") fs) (λ measure.
    and_then (given_once (codes "HINTS") fs) (λ hints.
    and_then (given_once (codes "GUARD") fs) (λ guard.
    and_then (and_then (given_once (codes "VERIFY-GUARDS") fs) truth_in) (λ verify.
    and_then (and_then (given_once (codes "OTF-FLG") fs) truth_in) (λ otf. Some (verified_xargs measure hints guard verify otf)))))))
    None

-- A `declare` has one `xargs` at most; (ignore V ..) and (ignorable V ..) are passed over.
abbrev pub is_ignored : Option (List Form) → Bool
is_ignored (Some (h ∷ fs)) = is_symbol (codes "IGNORE") h || is_symbol (codes "IGNORABLE") h
is_ignored o = false

abbrev pub is_xargs : Option (List Form) → Bool
is_xargs (Some (h ∷ fs)) = is_symbol (codes "XARGS") h
is_xargs o = false

abbrev pub xargs_by : Option (List Form) → List (List Form)
xargs_by (Some (h ∷ fs)) = cond (is_symbol (codes "XARGS") h) (fs ∷ []) []
xargs_by o = []

abbrev pub xargs_lists : List Form → List (List Form)
xargs_lists [] = []
xargs_lists (f ∷ fs) = xargs_by (items_in f) ++ xargs_lists fs

abbrev pub is_declaration : Form → Bool
is_declaration f = is_ignored (items_in f) || is_xargs (items_in f)

abbrev pub xargs_in : Option (List Form) → Option Xargs
xargs_in None = Some no_xargs
xargs_in (Some fs) = xargs_of fs

abbrev pub declared_by : Option (List Form) → Option Xargs
declared_by (Some (h ∷ fs)) =
    cond (is_symbol (codes "DECLARE") h && list_all is_declaration fs) (and_then (at_most_one (xargs_lists fs)) xargs_in) None
declared_by o = None

-- the `xargs` of a `declare`
abbrev pub declared_in : Form → Option Xargs
declared_in f = declared_by (items_in f)

-- a definition as its event states it
pub record Defined : Type 0 where
  pub name : Symbol
  pub formals : List Form
  pub body : Form
  pub xargs : Xargs

abbrev pub as_defined : Definition → Defined
as_defined d = record { name = d.name.now; formals = d.formals.now; body = d.body.now; xargs = as_xargs d.xargs }

-- what stands before the body: a text, a `declare`, or the one and then the other
abbrev pub as_before : Preamble → Xargs × Form
as_before b = (as_xargs b.xargs, b.body.now)

abbrev pub before_body : List Form → Option (Xargs × Form)
before_body (b ∷ []) = Some (no_xargs, b)
before_body (d ∷ b ∷ []) = cond (is_string d) (Some (no_xargs, b)) (and_then (declared_in d) (λ x. Some (x, b)))
before_body (s ∷ d ∷ b ∷ []) = cond (is_string s) (and_then (declared_in d) (λ x. Some (x, b))) None
before_body fs = None

-- each formal is a symbol
abbrev pub are_symbols : List Form → Bool
are_symbols = list_all (λ f. is_some (symbol_in f))

abbrev pub formals_in : Form → Option (List Form)
formals_in f = and_then (items_in f) (λ fs. cond (are_symbols fs) (Some fs) None)

abbrev pub defined_by : Symbol → List Form → Xargs × Form → Defined
defined_by n fs p = record { name = n; formals = fs; body = p.1; xargs = p.0 }

abbrev pub defined_in : Form → Form → List Form → Option Defined
defined_in n fs rest =
    and_then (name_in n) (λ name. both (λ formals p. Some (defined_by name formals p)) (formals_in fs) (before_body rest))

abbrev pub definition_of_parts : Option (List Form) → Option Defined
definition_of_parts (Some (h ∷ n ∷ fs ∷ rest)) = defined_in n fs rest
definition_of_parts o = None

abbrev pub definition_of : Form → Option Defined
definition_of f = definition_of_parts (items_in f)

-- Constants: (defconst *NAME* FORM), where the form is one of a constant, which is looked at later

abbrev pub as_constant : Constant → Symbol × Form
as_constant c = (c.name.now, c.value.now)

abbrev pub constant_of_parts : Option (List Form) → Option (Symbol × Form)
constant_of_parts (Some (h ∷ n ∷ f ∷ [])) = and_then (constant_name_in n) (λ name. Some (name, f))
constant_of_parts o = None

abbrev pub constant_of : Form → Option (Symbol × Form)
constant_of f = constant_of_parts (items_in f)
