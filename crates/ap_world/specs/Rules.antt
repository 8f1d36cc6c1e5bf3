-- The rewrite rules of theorems: a theorem's parts, what each says, and the rules of a world. See the manual's topic
-- `rewrite`.
use Rattle.std.specs.Prelude.{ℕ, ◌+◌, Bool, true, false, cond, not, ◌&&◌, List, [], ◌∷◌, ◌++◌, map, Option, Some, None}
use Rattle.ap_list.specs.Lists.{all_true, is_within}
use Rattle.ap_value.specs.declared.symbol.Symbol.{Symbol}
use Rattle.ap_value.specs.Values.{symbol_eq}
use Rattle.ap_term.specs.declared.term.Term.{Term, para-Term, fold-Term, out-Term, Quote}
use Rattle.ap_term.specs.declared.term.Term.TheOpen.{Term-F}
use Rattle.ap_term.specs.Equal.{term_eq}
use Rattle.ap_term.specs.Terms.{vars_after}
use Rattle.ap_world.specs.Assume.{whole}
use Rattle.ap_world.specs.Clauses.{conjuncts}
use Rattle.ap_world.specs.Names.{if_name, not_name, equal_name, implies_name, iff_name}
use Rattle.ap_world.specs.Recursion.{nil_constant, t_constant}
use Rattle.ap_world.specs.declared.entry.RuleClass.{RuleClass}
use Rattle.ap_world.specs.declared.entry.RuleClass.TheVariants as class
use Rattle.ap_world.specs.declared.entry.Entry.{Entry}
use Rattle.ap_world.specs.declared.entry.Entry.TheVariants as entry

-- part of a theorem as a rule: under the hypotheses, an instance of the left side leads to that of the right side
pub record Rule : Type 0 where
  pub theorem : Symbol
  pub part : ℕ
  pub iff : Bool
  pub lhs : Term
  pub rhs : Term
  pub hyps : List Term

-- a theorem's hypotheses and its conclusion: those of (implies h c) are h's conjuncts and c's
abbrev pub parted : Bool → List (Term × (List Term × Term)) → List Term × Term → List Term × Term
parted true (h ∷ c ∷ []) alone = (conjuncts h.0 ++ c.1.0, c.1.1)
parted b ps alone = alone

-- a theorem's hypotheses and its conclusion, through each `implies` on the way
abbrev pub stated_step : Term-F (Term × (List Term × Term)) → List Term × Term
stated_step (Term-F.Call f ps) = parted (symbol_eq f implies_name) ps ([], whole (Term-F.Call f ps))
stated_step y = ([], whole y)

abbrev pub stated : Term → List Term × Term
stated = para-Term (List Term × Term) stated_step

-- how a conjunct is read: whether under iff alone, its left side and its right side
abbrev pub Sides : Type 0
Sides = Bool × Term × Term

abbrev pub call_sides : Bool → Bool → Bool → List Term → Sides → Sides
call_sides true i n (a ∷ b ∷ []) alone = (false, a, b)
call_sides false true n (a ∷ b ∷ []) alone = (true, a, b)
call_sides false false true (a ∷ []) alone = (false, a, nil_constant)
call_sides e i n ts alone = alone

abbrev pub sides_by : Term → Term-F Term → Sides
sides_by u (Term-F.Call f ts) = call_sides (symbol_eq f equal_name) (symbol_eq f iff_name) (symbol_eq f not_name) ts (true, u, t_constant)
sides_by u y = (true, u, t_constant)

abbrev pub sides : Term → Sides
sides u = sides_by u (out-Term u)

-- the rules of the conjuncts, numbered from this part on
abbrev pub rules_from : Symbol → List Term → ℕ → List Term → List Rule
rules_from name hs i [] = []
rules_from name hs i (u ∷ us) =
    record { theorem = name; part = i; iff = (sides u).0; lhs = (sides u).1; rhs = (sides u).2; hyps = hs } ∷ rules_from name hs (i + 1) us

abbrev pub rules_of_term : Symbol → Term → List Rule
rules_of_term name u = rules_from name (stated u).0 0 (conjuncts (stated u).1)

-- what a left side may not be, and what stands in a right side
abbrev pub is_left : Term-F Term → Bool
is_left (Term-F.Call f ts) = not (symbol_eq f if_name)
is_left y = false

abbrev pub vars_in : List Term → List Symbol → List Symbol
vars_in [] seen = seen
vars_in (u ∷ us) seen = vars_in us (vars_after u seen)

abbrev pub is_rule : Rule → Bool
is_rule r = is_left (out-Term r.lhs) && is_within symbol_eq (vars_after r.rhs []) (vars_in r.hyps (vars_after r.lhs []))

abbrev pub rewrites : List RuleClass → Bool
rewrites [] = false
rewrites (class.Rewrite ∷ cs) = true
rewrites (c ∷ cs) = rewrites cs

-- all of a theorem's rules, or none where one of them isn't a rule
abbrev pub sound_rules : List Rule → List Rule
sound_rules rs = cond (all_true (map is_rule rs)) rs []

abbrev pub rules_in_entry : Entry → List Rule
rules_in_entry (entry.Theorem u) = cond (rewrites u.classes) (sound_rules (rules_of_term u.name u.term)) []
rules_in_entry y = []

abbrev pub newest_first : List Rule → List Rule
newest_first [] = []
newest_first (r ∷ rs) = newest_first rs ++ r ∷ []

-- the rules of a world, newest first
abbrev pub rules_in : List Entry → List Rule
rules_in [] = []
rules_in (y ∷ ys) = rules_in ys ++ newest_first (rules_in_entry y)

-- the two sides differ by a renaming of variables: the pairs of variables that stand in the same places are
-- one to one
abbrev pub Renaming : Type 0
Renaming = List (Symbol × Symbol)

abbrev pub same_bool : Bool → Bool → Bool
same_bool true b = b
same_bool false b = not b

abbrev pub agrees : Symbol → Symbol → Renaming → Bool
agrees x y [] = true
agrees x y (p ∷ ps) = same_bool (symbol_eq x p.0) (symbol_eq y p.1) && agrees x y ps

abbrev pub Renames : Type 0
Renames = Term → Renaming → Option Renaming

abbrev pub with_renaming : Option Renaming → (Renaming → Option Renaming) → Option Renaming
with_renaming None k = None
with_renaming (Some s) k = k s

abbrev pub rename_all : List Renames → List Term → Renaming → Option Renaming
rename_all [] [] s = Some s
rename_all (m ∷ ms) (t ∷ ts) s = with_renaming (m t s) (rename_all ms ts)
rename_all ms ts s = None

abbrev pub rename_var : Symbol → Term-F Term → Renames
rename_var x (Term-F.Var y) t s = cond (agrees x y s) (Some (s ++ (x, y) ∷ [])) None
rename_var x z t s = None

abbrev pub rename_call : Symbol → List Renames → Term-F Term → Renaming → Option Renaming
rename_call f ms (Term-F.Call g ts) s = cond (symbol_eq f g) (rename_all ms ts s) None
rename_call f ms y s = None

abbrev pub rename_step : Term-F Renames → Renames
rename_step (Term-F.Var x) t s = rename_var x (out-Term t) t s
rename_step (Term-F.Quote v) t s = cond (term_eq (Quote v) t) (Some s) None
rename_step (Term-F.Call f ms) t s = rename_call f ms (out-Term t) s

abbrev pub is_renaming : Option Renaming → Bool
is_renaming None = false
is_renaming (Some s) = true

abbrev pub is_permutative : Rule → Bool
is_permutative r = is_renaming (fold-Term Renames rename_step r.lhs r.rhs [])

-- every variable of the right side is in the left side
abbrev pub is_bound_by_left : Rule → Bool
is_bound_by_left r = is_within symbol_eq (vars_after r.rhs []) (vars_after r.lhs [])
