-- What the program keeps of terms on the way: what is made of them, where they have at most 4,096 nodes.
use Rattle.std.specs.Prelude.{◌≡◌, ℕ, ◌+◌, ◌≤◌, Bool, true, List, [], ◌∷◌, map, length, Option, Some, None, option_map, unwrap_or, Ok, Err}
use Rattle.ap_value.specs.declared.symbol.Symbol.{Symbol}
use Rattle.ap_value.specs.declared.value.Value.TheVariants.{Sym}
use Rattle.ap_term.specs.declared.term.Term.{Term, Quote}
use Rattle.ap_term.specs.Terms.{term_size}
use Rattle.ap_reader.specs.declared.form.Form.{Form}
use Rattle.ap_world.specs.Names.{cons_name}
use Rattle.ap_translate.specs.declared.arms.Arm.{Arm}
use Rattle.ap_translate.specs.declared.arms.Arms.{Arms}
use Rattle.ap_translate.specs.declared.build.Maker.{Maker}
use Rattle.ap_translate.specs.declared.build.Piece.{Piece}
use Rattle.ap_translate.specs.declared.build.Pieces.{Pieces}
use Rattle.ap_translate.specs.declared.scope.Bindings.{Bindings}
use Rattle.ap_translate.specs.Answers.{Answer, ◌>>=◌}
use Rattle.ap_translate.specs.Plans.{Plan, build, apply}
use Rattle.ap_translate.specs.Quoted.{quote_name}
use Rattle.ap_translate.specs.Rows.{call_2, if_term, or_term, made, admits, pieced}
use Rattle.ap_translate.specs.Shapes.{Arm as Clause, alone, pair, otherwise}
use Rattle.ap_translate.specs.Sizes.{small_by, total, few_by, small, capped}

-- what is made of terms, where they are kept
abbrev pub kept_made : Maker → Option (List Term) → Option Term
kept_made k None = None
kept_made k (Some us) = small (made k us)

-- the parts of a backquoted list, by the nodes of their terms
abbrev pub piece_size : Piece → ℕ
piece_size x = term_size x.term

abbrev pub small_piece : Piece → Option Piece
small_piece = small_by piece_size

abbrev pub few_pieces : List Piece → Option (List Piece)
few_pieces = few_by piece_size

abbrev pub as_piece : Bool → Option Term → Option Piece
as_piece b None = None
as_piece b (Some u) = Some (record { spliced = b; term = u })

abbrev pub list_pieces : Option Pieces → Option (List Piece)
list_pieces None = None
list_pieces (Some r) = Some r.pieces

pub record ArePieces (r : Pieces) : Type 0 where
  pub is : r.nodes ≡ total piece_size r.pieces
  pub low : r.nodes ≤ 4096

abbrev pub kept_pieced : Option (List Piece) → Option Term
kept_pieced None = None
kept_pieced (Some xs) = small (pieced xs)

-- the list (QUOTE x) of one part
abbrev pub quote_pieced : Piece → Term
quote_pieced x = call_2 cons_name (Quote (Sym quote_name)) (pieced (x ∷ []))

abbrev pub kept_quoted : Option Piece → Option Term
kept_quoted None = None
kept_quoted (Some x) = small (quote_pieced x)

-- the clauses of `cond` that have a term
abbrev pub arm_size : Arm → ℕ
arm_size x = term_size x.test + unwrap_or (option_map term_size x.value) 0

abbrev pub arm_alone : Option Term → Option Arm
arm_alone None = None
arm_alone (Some a) = Some (record { test = a; value = None })

abbrev pub arm_pair : Option Term → Option Term → Option Arm
arm_pair (Some a) (Some b) = Some (record { test = a; value = Some b })
arm_pair (Some a) None = None
arm_pair None o = None

-- of a clause's forms
abbrev pub clause_kept : (Form → Answer Term) → Clause → Answer (Option Arm)
clause_kept r (alone f) = capped small (r f) >>= λ o. Ok (arm_alone o)
clause_kept r (pair f g) = capped small (r f) >>= λ o. capped small (r g) >>= λ n. Ok (arm_pair o n)
clause_kept r (otherwise g) = capped small (r g) >>= λ o. Ok (arm_alone o)

abbrev pub list_arms : Option Arms → Option (List Arm)
list_arms None = None
list_arms (Some r) = Some r.arms

pub record AreArms (r : Arms) : Type 0 where
  pub is : r.nodes ≡ total arm_size r.arms
  pub low : r.nodes ≤ 4096

-- one clause before the rest, and all before a last term
abbrev pub armed_by : Term → Option Term → Term → Term
armed_by a None u = or_term a u
armed_by a (Some b) u = if_term a b u

abbrev pub armed : Arm → Term → Term
armed x u = armed_by x.test x.value u

abbrev pub arms_before : List Arm → Term → Term
arms_before [] u = u
arms_before (x ∷ xs) u = armed x (arms_before xs u)

abbrev pub kept_arms : Option (List Arm) → Option Term → Option Term
kept_arms (Some xs) (Some u) = small (arms_before xs u)
kept_arms (Some xs) None = None
kept_arms None o = None

-- bindings, as the program holds them
abbrev pub kept_bindings : Answer (List (Symbol × Term)) → Answer Bindings
kept_bindings (Ok ss) = Ok (record { names = map (λ s. s.0) ss; terms = map (λ s. small s.1) ss })
kept_bindings (Err e) = Err e

-- terms, each by itself
abbrev pub each_small : Answer (List Term) → Answer (List (Option Term))
each_small (Ok us) = Ok (map small us)
each_small (Err e) = Err e

-- what a list asks for can be made: of so many terms, of as many actuals as variables
abbrev pub Admitted : Plan → Type 0
Admitted (build k fs) = admits k (length fs) ≡ true
Admitted (apply x fs) = length x.heads ≡ length fs
Admitted x = Unit {0}
