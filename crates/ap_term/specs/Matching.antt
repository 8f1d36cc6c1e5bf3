-- Matching a pattern with a term: the least substitution that takes the one to the other.
use Rattle.std.specs.Prelude.{◌≡◌, Bool, true, cond, List, [], ◌∷◌, ◌++◌, map, Option, Some, None, is_some}
use Rattle.ap_list.specs.Lists.{all_true, lookup_by}
use Rattle.ap_value.specs.declared.symbol.Symbol.{Symbol}
use Rattle.ap_value.specs.Values.{symbol_eq}
use Rattle.ap_term.specs.declared.term.Term.{Term, fold-Term, out-Term, Quote}
use Rattle.ap_term.specs.declared.term.Term.TheOpen.{Term-F}
use Rattle.ap_term.specs.Equal.{term_eq}
use Rattle.ap_term.specs.Terms.{vars_after, subst_of}

abbrev pub Pairs : Type 0
Pairs = List (Symbol × Term)

abbrev pub Matcher : Type 0
Matcher = Term → Pairs → Option Pairs

-- a variable's term is the one it has, or is noted at the end
abbrev pub noted : Symbol → Term → Pairs → Option Term → Option Pairs
noted x t s None = Some (s ++ (x, t) ∷ [])
noted x t s (Some u) = cond (term_eq u t) (Some s) None

-- the next match, beginning with the pairs of the one before
abbrev pub with_pairs : Option Pairs → (Pairs → Option Pairs) → Option Pairs
with_pairs None k = None
with_pairs (Some s) k = k s

-- as many patterns as terms, one after another
abbrev pub match_all : List Matcher → List Term → Pairs → Option Pairs
match_all [] [] s = Some s
match_all (m ∷ ms) (t ∷ ts) s = with_pairs (m t s) (match_all ms ts)
match_all ms ts s = None

abbrev pub match_call : Symbol → List Matcher → Term-F Term → Pairs → Option Pairs
match_call f ms (Term-F.Call g ts) s = cond (symbol_eq f g) (match_all ms ts s) None
match_call f ms y s = None

abbrev pub match_step : Term-F Matcher → Matcher
match_step (Term-F.Var x) t s = noted x t s (lookup_by symbol_eq s x)
match_step (Term-F.Quote v) t s = cond (term_eq (Quote v) t) (Some s) None
match_step (Term-F.Call f ms) t s = match_call f ms (out-Term t) s

-- the pattern matches the term, beginning with these pairs
abbrev pub matched : Term → Matcher
matched = fold-Term Matcher match_step

-- each variable of the term has a pair
abbrev pub bound_step : Pairs → Term-F Bool → Bool
bound_step s (Term-F.Var x) = is_some (lookup_by symbol_eq s x)
bound_step s (Term-F.Quote v) = true
bound_step s (Term-F.Call f bs) = all_true bs

abbrev pub is_bound : Pairs → Term → Bool
is_bound s = fold-Term Bool (bound_step s)

-- pairs that give each variable that these have the same term
abbrev pub Extends : Pairs → Pairs → Type 0
Extends s z = (x : Symbol) (t : Term) → lookup_by symbol_eq s x ≡ Some t → lookup_by symbol_eq z x ≡ Some t

-- pairs that give each variable of the pattern a term, keep those they began with, and take the pattern to the term
pub record Takes (l u : Term) (s y : Pairs) : Type 0 where
  pub extends : Extends s y
  pub bound : is_bound y l ≡ true
  pub instance : subst_of y l ≡ u

abbrev pub names_in : Pairs → List Symbol
names_in s = map (λ p. p.0) s

-- what a match gives: it stands behind the pairs that it began with, in order of first occurrence, and is the least
pub record IsLeast (l u : Term) (s z : Pairs) : Type 0 where
  pub takes : Takes l u s z
  pub behind : (new : Pairs) × (z ≡ s ++ new)
  pub in_order : names_in z ≡ vars_after l (names_in s)
  pub least : (y : Pairs) → Takes l u s y → Extends z y

-- a match is the least extension that takes the pattern to the term
abbrev pub MatchesAreLeast : Type 0
MatchesAreLeast = (l u : Term) (s z : Pairs) → matched l u s ≡ Some z → IsLeast l u s z

-- and where there is none, nothing takes it there
abbrev pub MatchesAreFound : Type 0
MatchesAreFound = (l u : Term) (s : Pairs) → matched l u s ≡ None → (y : Pairs) → Takes l u s y → ⊥
