-- A term with its variables replaced by what was kept of their terms, as far as it has at most 4,096 nodes.
use Rattle.std.specs.Prelude.{ℕ, ◌+◌, Bool, true, false, cond, nat_le, List, [], ◌∷◌, map, Option, Some, None, unwrap_or}
use Rattle.ap_list.specs.Lists.{lookup_by}
use Rattle.ap_value.specs.declared.symbol.Symbol.{Symbol}
use Rattle.ap_value.specs.Counts.{node_count}
use Rattle.ap_value.specs.Values.{symbol_eq}
use Rattle.ap_term.specs.declared.term.Term.{Term, fold-Term, Var}
use Rattle.ap_term.specs.declared.term.Term.TheOpen.{Term-F}
use Rattle.ap_term.specs.Terms.{term_size, subst_of}

-- variables, each with what is kept of the term that replaces it
abbrev pub Kept : Type 0
Kept = List (Symbol × Option Term)

-- the nodes of what replaces a variable; None: of a term that isn't kept
abbrev pub nodes_found : Option (Option Term) → Option ℕ
nodes_found None = Some 1
nodes_found (Some None) = None
nodes_found (Some (Some u)) = Some (term_size u)

abbrev pub sum_two : Option ℕ → Option ℕ → Option ℕ
sum_two (Some m) (Some n) = Some (m + n)
sum_two (Some m) None = None
sum_two None o = None

abbrev pub sum_known : List (Option ℕ) → Option ℕ
sum_known [] = Some 0
sum_known (o ∷ os) = sum_two o (sum_known os)

abbrev pub nodes_step : Kept → Term-F (Option ℕ) → Option ℕ
nodes_step s (Term-F.Var x) = nodes_found (lookup_by symbol_eq s x)
nodes_step s (Term-F.Quote v) = Some (node_count v)
nodes_step s (Term-F.Call f os) = sum_two (Some 1) (sum_known os)

-- the nodes of a term with its variables replaced
abbrev pub nodes_of : Kept → Term → Option ℕ
nodes_of s = fold-Term (Option ℕ) (nodes_step s)

-- they and so many more, where they are at most 4,096
abbrev pub at_most : Option ℕ → Option ℕ
at_most None = None
at_most (Some n) = cond (nat_le n 4096) (Some n) None

abbrev pub more_than : ℕ → Option ℕ → Option ℕ
more_than n o = at_most (sum_two (Some n) o)

-- what a variable is replaced by, where it is kept
abbrev pub replaced_by : Option (Option Term) → Symbol → Term
replaced_by (Some (Some u)) x = u
replaced_by o x = Var x

-- the pairs that are kept; another variable stays
abbrev pub kept_pair : Symbol × Option Term → Symbol × Term
kept_pair p = (p.0, unwrap_or p.1 (Var p.0))

abbrev pub known_pairs : Kept → List (Symbol × Term)
known_pairs s = map kept_pair s

-- the instance, where it has at most 4,096 nodes
abbrev pub only_if : Option ℕ → Term → Option Term
only_if None u = None
only_if (Some n) u = Some u

abbrev pub kept_instance : Kept → Term → Option Term
kept_instance s u = only_if (more_than 0 (nodes_of s u)) (subst_of (known_pairs s) u)

-- one pair after another, the last pair's first
abbrev pub in_turn_by : (Symbol × Option Term) → Option Term → Option Term
in_turn_by s None = None
in_turn_by s (Some u) = kept_instance (s ∷ []) u

abbrev pub kept_in_turn : Kept → Term → Option Term
kept_in_turn [] u = Some u
kept_in_turn (s ∷ ss) u = in_turn_by s (kept_in_turn ss u)

abbrev pub kept_either : Bool → Kept → Term → Option Term
kept_either true = kept_in_turn
kept_either false = kept_instance

-- either way, where the term itself is kept
abbrev pub kept_by : (Term → Option Term) → Option Term → Option Term
kept_by k None = None
kept_by k (Some u) = k u
