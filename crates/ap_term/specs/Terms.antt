-- Words on terms, each a fold: one line for a variable, a constant and a call.
use Rattle.std.specs.Prelude.{ℕ, ◌+◌, Bool, true, cond, List, [], ◌∷◌, ◌++◌, unwrap_or}
use Rattle.ap_list.specs.Lists.{sum_of, in_turn, all_true, is_among, lookup_by}
use Rattle.ap_value.specs.declared.symbol.Symbol.{Symbol}
use Rattle.ap_value.specs.Values.{symbol_eq}
use Rattle.ap_value.specs.Counts.{node_count}
use Rattle.ap_value.specs.Fits.{all_fit}
use Rattle.ap_term.specs.declared.term.Term.{Term, fold-Term, Var, Quote, Call}
use Rattle.ap_term.specs.declared.term.Term.TheOpen.{Term-F}

-- the number of nodes: a variable is one, a constant its value's, a call one more than its arguments
abbrev pub size_step : Term-F ℕ → ℕ
size_step (Term-F.Var x) = 1
size_step (Term-F.Quote v) = node_count v
size_step (Term-F.Call f ns) = sum_of ns + 1

abbrev pub term_size : Term → ℕ
term_size = fold-Term ℕ size_step

abbrev pub fit_step : Term-F Bool → Bool
fit_step (Term-F.Var x) = true
fit_step (Term-F.Quote v) = all_fit v
fit_step (Term-F.Call f bs) = all_true bs

-- every integer in a term has 128 bits, as in each that a program holds
abbrev pub term_fits : Term → Bool
term_fits = fold-Term Bool fit_step

-- the variables, in order of first occurrence, added to those that stand already
abbrev pub vars_step : Term-F (List Symbol → List Symbol) → List Symbol → List Symbol
vars_step (Term-F.Var x) seen = cond (is_among symbol_eq x seen) seen (seen ++ x ∷ [])
vars_step (Term-F.Quote v) seen = seen
vars_step (Term-F.Call f more) seen = in_turn more seen

abbrev pub vars_after : Term → List Symbol → List Symbol
vars_after = fold-Term (List Symbol → List Symbol) vars_step

-- the instance under a substitution: a variable without a pair stays
abbrev pub subst_step : List (Symbol × Term) → Term-F Term → Term
subst_step s (Term-F.Var x) = unwrap_or (lookup_by symbol_eq s x) (Var x)
subst_step s (Term-F.Quote v) = Quote v
subst_step s (Term-F.Call f ts) = Call f ts

abbrev pub subst_of : List (Symbol × Term) → Term → Term
subst_of s = fold-Term Term (subst_step s)
