-- What a form is as a term, from the outside in: one line for each form of the language.
use Rattle.std.specs.Prelude.{ℕ, zero, suc, Bool, true, false, cond, nat_le, List, [], ◌∷◌, ◌++◌, map, zip, Option, Some, None, option_map, Ok}
use Rattle.ap_list.specs.Lists.{is_among}
use Rattle.ap_value.specs.declared.symbol.Symbol.{Symbol}
use Rattle.ap_value.specs.declared.value.Value.{Value}
use Rattle.ap_value.specs.declared.value.Value.TheVariants.{Int, Chr, Str, Sym}
use Rattle.ap_value.specs.Values.{symbol_eq}
use Rattle.ap_term.specs.declared.term.Term.{Term, Var, Quote}
use Rattle.ap_term.specs.Terms.{term_size, subst_of}
use Rattle.ap_reader.specs.declared.form.Form.{Form}
use Rattle.ap_reader.specs.declared.form.Body.TheOpen.{Body-F}
use Rattle.ap_world.specs.declared.entry.Entry.{Entry}
use Rattle.ap_world.specs.Names.{cons_name}
use Rattle.ap_world.specs.World.{constant_of}
use Rattle.ap_translate.specs.declared.fault.TransKind.TheVariants as kinds
use Rattle.ap_translate.specs.declared.build.Piece.{Piece}
use Rattle.ap_translate.specs.Answers.{Answer, refused, ◌>>=◌, shaped, each}
use Rattle.ap_translate.specs.Names.{is_constant, is_starred, can_be_bound}
use Rattle.ap_translate.specs.Parts.{Layer, layer_of, symbol_in}
use Rattle.ap_translate.specs.Rows.{nil_term, call_2, if_term, or_term, made, pieced, instances}
use Rattle.ap_translate.specs.Shapes.{Arm, alone, pair, otherwise, arm_in, binding_in, Scope}
use Rattle.ap_translate.specs.Plans.{Plan, empty, quotation, build, arms, bind, apply, plan_in}
use Rattle.ap_translate.specs.Quoted.{quote_name, constant_in}

-- the variables that are bound; None: each variable may stand
abbrev pub Bound : Type 0
Bound = Option (List Symbol)

abbrev pub with_bound : Bound → List Symbol → Bound
with_bound b vs = option_map (λ xs. xs ++ vs) b

-- what gives a form's parts: as terms, in a backquote, in a backquoted list, in a quote
pub record Readers : Type 0 where
  pub term : Bound → Form → Answer Term
  pub part : Bound → Form → Answer Term
  pub piece : Bound → Form → Answer Piece
  pub constant : Form → Answer Value

-- a name between asterisks
abbrev pub constant_term : ℕ → Option Value → Answer Term
constant_term p (Some v) = Ok (Quote v)
constant_term p None = refused p kinds.UnknownName

-- a variable
abbrev pub variable_term : ℕ → Bound → Symbol → Answer Term
variable_term p None s = Ok (Var s)
variable_term p (Some xs) s = cond (is_among symbol_eq s xs) (Ok (Var s)) (refused p kinds.UnknownName)

abbrev pub symbol_term : List Entry → ℕ → Bound → Symbol → Answer Term
symbol_term W p b s =
    cond (is_constant s) (Ok (Quote (Sym s))) (cond (is_starred s.name) (constant_term p (constant_of W s)) (variable_term p b s))

-- a variable in its place, after others
abbrev pub variable : ℕ → List Symbol → Symbol → Answer Symbol
variable p before s = cond (can_be_bound s before) (Ok s) (refused p kinds.NotAVariable)

abbrev pub variables : ℕ → List Symbol → List Form → Answer (List Symbol)
variables p before [] = Ok []
variables p before (f ∷ fs) = shaped p (symbol_in f) (λ s. variable f.place before s >>= λ v. variables p (before ++ v ∷ []) fs >>= λ vs. Ok (v ∷ vs))

-- (v e) .., where each e may see the variables before it or none of them
abbrev pub bindings : (List Symbol → Form → Answer Term) → ℕ → List Symbol → List Form → Answer (List (Symbol × Term))
bindings r p before [] = Ok []
bindings r p before (f ∷ fs) = shaped p (binding_in f) (λ x. variable x.place before x.name >>= λ v. r before x.value >>= λ u.
    bindings r p (before ++ v ∷ []) fs >>= λ ss. Ok ((v, u) ∷ ss))

-- the variables that a binding's form sees: in a `let*` those before it too
abbrev pub scope_of : Bool → Bound → List Symbol → Bound
scope_of true b before = with_bound b before
scope_of false b before = b

-- the variables replaced at once, or in a `let*` one after another
abbrev pub body_of : Bool → List (Symbol × Term) → Term → Term
body_of true = instances
body_of false = subst_of

-- the body of a `let`, or where it is true of a `let*`
abbrev pub let_term : Bool → Readers → Bound → ℕ → Scope → Answer Term
let_term in_turn r b p x = bindings (λ before. r.term (scope_of in_turn b before)) p [] x.heads >>= λ ss.
    r.term (with_bound b (map (λ s. s.0) ss)) x.body >>= λ u. Ok (body_of in_turn ss u)

-- ((lambda (v ..) body) e ..)
abbrev pub lambda_term : Readers → Bound → ℕ → Scope → List Form → Answer Term
lambda_term r b p x fs = variables p [] x.heads >>= λ vs. r.term (with_bound b vs) x.body >>= λ u. each (r.term b) fs >>= λ ts. Ok (subst_of (zip vs ts) u)

-- (cond) is 'NIL; (cond (a) ..) is (if a a (cond ..)); (cond (a b) ..) is (if a b (cond ..)); (cond (t b) ..) is b
abbrev pub arm_term : (Form → Answer Term) → Arm → Answer Term → Answer Term
arm_term r (alone f) rest = r f >>= λ a. rest >>= λ u. Ok (or_term a u)
arm_term r (pair f g) rest = r f >>= λ a. r g >>= λ b. rest >>= λ u. Ok (if_term a b u)
arm_term r (otherwise g) rest = r g

abbrev pub arms_term : (Form → Answer Term) → ℕ → List Form → Answer Term
arms_term r p [] = Ok nil_term
arms_term r p (f ∷ fs) = shaped p (arm_in f) (λ x. arm_term r x (arms_term r p fs))

-- 'x and (quote x), by the constant
abbrev pub quoted_term : Answer Value → Answer Term
quoted_term r = r >>= λ v. Ok (Quote v)

-- what a list asks for, as a term
abbrev pub plan_term : Readers → Bound → ℕ → Plan → Answer Term
plan_term r b p empty = Ok nil_term
plan_term r b p (quotation f) = quoted_term (r.constant f)
plan_term r b p (build k fs) = each (r.term b) fs >>= λ us. Ok (made k us)
plan_term r b p (arms fs) = arms_term (r.term b) p fs
plan_term r b p (bind in_turn x) = let_term in_turn r b p x
plan_term r b p (apply x fs) = lambda_term r b p x fs

-- one level of a form at place p as a term, from what gives its parts; None: no more may be nested
abbrev pub term_layer : List Entry → Option Readers → Bound → ℕ → Layer → Answer Term
term_layer W o b p (Body-F.Int n) = Ok (Quote (Int n))
term_layer W o b p (Body-F.Chr c) = Ok (Quote (Chr c))
term_layer W o b p (Body-F.Str s) = Ok (Quote (Str s))
term_layer W o b p (Body-F.Sym s) = symbol_term W p b s
term_layer W o b p (Body-F.List fs) = shaped p o (λ r. plan_in W p fs >>= plan_term r b p)
term_layer W o b p (Body-F.Dotted fs f) = refused p kinds.DottedForm
term_layer W o b p (Body-F.Quoted f) = shaped p o (λ r. quoted_term (r.constant f))
term_layer W o b p (Body-F.Quasi f) = shaped p o (λ r. r.part b f)
term_layer W o b p (Body-F.Comma f) = refused p kinds.CommaOutside
term_layer W o b p (Body-F.CommaAt f) = refused p kinds.CommaOutside

-- in a backquote; 'x is the list (QUOTE X) there
abbrev pub part_layer : Option Readers → Bound → ℕ → Layer → Answer Term
part_layer o b p (Body-F.Int n) = Ok (Quote (Int n))
part_layer o b p (Body-F.Chr c) = Ok (Quote (Chr c))
part_layer o b p (Body-F.Str s) = Ok (Quote (Str s))
part_layer o b p (Body-F.Sym s) = Ok (Quote (Sym s))
part_layer o b p (Body-F.List fs) = shaped p o (λ r. each (r.piece b) fs >>= λ xs. Ok (pieced xs))
part_layer o b p (Body-F.Dotted fs f) = refused p kinds.DottedForm
part_layer o b p (Body-F.Quoted f) = shaped p o (λ r. r.piece b f >>= λ x. Ok (call_2 cons_name (Quote (Sym quote_name)) (pieced (x ∷ []))))
part_layer o b p (Body-F.Quasi f) = refused p kinds.BadForm
part_layer o b p (Body-F.Comma f) = shaped p o (λ r. r.term b f)
part_layer o b p (Body-F.CommaAt f) = refused p kinds.BadForm

-- in a backquoted list, where ,@x is spliced
abbrev pub piece_layer : Option Readers → Bound → ℕ → Layer → Answer Piece
piece_layer o b p (Body-F.CommaAt f) = shaped p o (λ r. r.term b f >>= λ u. Ok (record { spliced = true; term = u }))
piece_layer o b p l = part_layer o b p l >>= λ u. Ok (record { spliced = false; term = u })

-- what gives parts in which n more lists and marks may be nested
unfoldable pub readers : List Entry → ℕ → Option Readers
readers W zero = None
readers W (suc n) = Some (record {
  term = λ b f. term_layer W (readers W n) b f.place (layer_of f);
  part = λ b f. part_layer (readers W n) b f.place (layer_of f);
  piece = λ b f. piece_layer (readers W n) b f.place (layer_of f);
  constant = constant_in n;
})

-- the same, by its parts
abbrev pub term_in : List Entry → ℕ → Bound → Form → Answer Term
term_in W n b f = term_layer W (readers W n) b f.place (layer_of f)

abbrev pub part_in : List Entry → ℕ → Bound → Form → Answer Term
part_in W n b f = part_layer (readers W n) b f.place (layer_of f)

abbrev pub piece_in : List Entry → ℕ → Bound → Form → Answer Piece
piece_in W n b f = piece_layer (readers W n) b f.place (layer_of f)

abbrev pub level : List Entry → ℕ → Readers
level W n = record { term = term_in W n; part = part_in W n; piece = piece_in W n; constant = constant_in n }

-- a term has at most 4,096 nodes, which is looked at last
abbrev pub within : ℕ → Term → Answer Term
within p u = cond (nat_le (term_size u) 4096) (Ok u) (refused p kinds.TermTooLarge)

-- what a form is as a term. No text is read as a form in which more than 400 lists and marks are nested.
abbrev pub translated : List Entry → Bound → Form → Answer Term
translated W b f = term_in W 400 b f >>= within f.place
