-- The words on terms at a variable, a constant and a call, with all arguments, for terms that are written out.
use Rattle.std.proofs.Common.{◌≡◌, Bool, true, false, sym, cond, List, [], ◌∷◌, ◌++◌, map, unwrap_or, refl, ap, ◌∙◌}
use Rattle.ap_list.specs.Lists.{is_among, in_turn, joined, lookup_by}
use Rattle.ap_value.specs.declared.symbol.Symbol.{Symbol}
use Rattle.ap_value.specs.declared.value.Value.{Value}
use Rattle.ap_value.specs.Values.{val_of, symbol_eq, value_eq}
use Rattle.ap_term.specs.declared.term.Term.{Term, out-Term, out-roll-Term, Var, Quote, Call}
use Rattle.ap_term.specs.declared.term.Term.TheOpen.{Term-F}
use Rattle.ap_term.specs.declared.term.Term.TheVariants.{rolls-Var, rolls-Quote, rolls-Call}
use Rattle.ap_term.specs.Equal.{term_eq}
use Rattle.ap_term.specs.Terms.{vars_step, vars_after, subst_step, subst_of}
use Rattle.ap_term.proofs.Equals.{term_eq-true}
use Rattle.ap_term.proofs.Induction.{fold_var, fold_quote, fold_call, para_var, para_quote, para_call}
use Rattle.ap_world.specs.Names.{if_name, not_name, implies_name}
use Rattle.ap_world.specs.Primitives.{nil}
use Rattle.ap_world.specs.Clauses.{not_of, negated_part, negation, negate, is_nil_constant, is_nil, if_parts, and_parts, conjuncts_step, conjuncts, implied, flat_step, flat}
use Rattle.ap_world.specs.Recursion.{calls_step, calls_in, own_call, at_branches, two_cases, one_case, cases_step, cases_of, has_flat_calls, clear_test, unnested_step, is_unnested}

-- the variables of a term after those that stand already
pub vars_var : (x : Symbol) (seen : List Symbol) → vars_after (Var x) seen ≡ cond (is_among symbol_eq x seen) seen (seen ++ x ∷ [])
vars_var x seen = ap (λ m. m seen) (fold_var vars_step x)

pub vars_quote : (q : Value) (seen : List Symbol) → vars_after (Quote q) seen ≡ seen
vars_quote q seen = ap (λ m. m seen) (fold_quote vars_step q)

pub vars_call : (f : Symbol) (ts : List Term) (seen : List Symbol) → vars_after (Call f ts) seen ≡ in_turn (map vars_after ts) seen
vars_call f ts seen = ap (λ m. m seen) (fold_call vars_step f ts)

-- the calls of F in a term
pub calls_var : (F : Symbol) (x : Symbol) → calls_in F (Var x) ≡ []
calls_var F x = para_var (calls_step F) x

pub calls_quote : (F : Symbol) (q : Value) → calls_in F (Quote q) ≡ []
calls_quote F q = para_quote (calls_step F) q

pub first_parts : {A : Type 0} (m : Term → A) (ts : List Term) → map (λ (p : Term × A). p.0) (map (λ u. (u, m u)) ts) ≡ ts
first_parts m [] = refl
first_parts m (u ∷ us) = ap (λ ts. u ∷ ts) (first_parts m us)

pub second_parts : {A : Type 0} (m : Term → A) (ts : List Term) → map (λ (p : Term × A). p.1) (map (λ u. (u, m u)) ts) ≡ map m ts
second_parts m [] = refl
second_parts m (u ∷ us) = ap (λ ts. m u ∷ ts) (second_parts m us)

pub calls_call : (F : Symbol) (f : Symbol) (ts : List Term) → calls_in F (Call f ts) ≡ own_call F f ts ++ joined (map (calls_in F) ts)
calls_call F f ts = para_call (calls_step F) f ts
    ∙ ap (λ us. own_call F f us ++ joined (map (λ (p : Term × List (List Term)). p.1) (map (λ u. (u, calls_in F u)) ts))) (first_parts (calls_in F) ts)
    ∙ ap (λ cs. own_call F f ts ++ joined cs) (second_parts (calls_in F) ts)

-- the instance of a term
pub subst_var : (s : List (Symbol × Term)) (x : Symbol) → subst_of s (Var x) ≡ unwrap_or (lookup_by symbol_eq s x) (Var x)
subst_var s x = fold_var (subst_step s) x

pub subst_quote : (s : List (Symbol × Term)) (q : Value) → subst_of s (Quote q) ≡ Quote q
subst_quote s q = fold_quote (subst_step s) q

pub subst_call : (s : List (Symbol × Term)) (f : Symbol) (ts : List Term) → subst_of s (Call f ts) ≡ Call f (map (subst_of s) ts)
subst_call s f ts = fold_call (subst_step s) f ts

-- the top of a term
pub out_var : (x : Symbol) → out-Term (Var x) ≡ Term-F.Var x
out_var x = ap out-Term (sym (rolls-Var x)) ∙ out-roll-Term (Term-F.Var x)

pub out_quote : (q : Value) → out-Term (Quote q) ≡ Term-F.Quote q
out_quote q = ap out-Term (sym (rolls-Quote q)) ∙ out-roll-Term (Term-F.Quote q)

pub out_call : (f : Symbol) (ts : List Term) → out-Term (Call f ts) ≡ Term-F.Call f ts
out_call f ts = ap out-Term (sym (rolls-Call f ts)) ∙ out-roll-Term (Term-F.Call f ts)

-- terms of different kinds, and what the test of equality says of terms that differ
pub call_isnt_var : (f : Symbol) (ts : List Term) (x : Symbol) → Call f ts ≡ Var x → ⊥
call_isnt_var f ts x h = let p = sym (out_call f ts) ∙ ap out-Term h ∙ out_var x in cc

pub quote_isnt_var : (q : Value) (x : Symbol) → Quote q ≡ Var x → ⊥
quote_isnt_var q x h = let p = sym (out_quote q) ∙ ap out-Term h ∙ out_var x in cc

pub differs : (a b : Term) → (a ≡ b → ⊥) → term_eq a b ≡ false
differs a b no_path = go (term_eq a b) refl
  where
    go : (b' : Bool) → term_eq a b ≡ b' → term_eq a b ≡ false
    go true e = absurd (no_path (term_eq-true a b e))
    go false e = e

pub differs_call : (f : Symbol) (ts : List Term) (x : Symbol) → term_eq (Call f ts) (Var x) ≡ false
differs_call f ts x = differs (Call f ts) (Var x) (call_isnt_var f ts x)

pub differs_quote : (q : Value) (x : Symbol) → term_eq (Quote q) (Var x) ≡ false
differs_quote q x = differs (Quote q) (Var x) (quote_isnt_var q x)

-- the negation of a term, and whether it is a constant that means nil
pub negate_var : (x : Symbol) → negate (Var x) ≡ not_of (Var x)
negate_var x = ap (λ y. negation y (Var x)) (out_var x)

pub negate_quote : (q : Value) → negate (Quote q) ≡ not_of (Quote q)
negate_quote q = ap (λ y. negation y (Quote q)) (out_quote q)

pub negate_call : (f : Symbol) (ts : List Term) → negate (Call f ts) ≡ negated_part (symbol_eq f not_name) ts (Call f ts)
negate_call f ts = ap (λ y. negation y (Call f ts)) (out_call f ts)

pub is_nil_var : (x : Symbol) → is_nil (Var x) ≡ false
is_nil_var x = ap is_nil_constant (out_var x)

pub is_nil_quote : (q : Value) → is_nil (Quote q) ≡ value_eq (val_of q) nil
is_nil_quote q = ap is_nil_constant (out_quote q)

pub is_nil_call : (f : Symbol) (ts : List Term) → is_nil (Call f ts) ≡ false
is_nil_call f ts = ap is_nil_constant (out_call f ts)

-- the conjuncts of a term, and the clause that it makes
pub conjuncts_var : (x : Symbol) → conjuncts (Var x) ≡ Var x ∷ []
conjuncts_var x = para_var conjuncts_step x

pub conjuncts_quote : (q : Value) → conjuncts (Quote q) ≡ Quote q ∷ []
conjuncts_quote q = para_quote conjuncts_step q

pub conjuncts_call : (f : Symbol) (ts : List Term) → conjuncts (Call f ts) ≡ and_parts (if_parts (symbol_eq f if_name) (map (λ u. (u, conjuncts u)) ts)) (Call f ts ∷ [])
conjuncts_call f ts = para_call conjuncts_step f ts
    ∙ ap (λ us. and_parts (if_parts (symbol_eq f if_name) (map (λ u. (u, conjuncts u)) ts)) (Call f us ∷ [])) (first_parts conjuncts ts)

pub flat_var : (x : Symbol) → flat (Var x) ≡ Var x ∷ []
flat_var x = para_var flat_step x

pub flat_quote : (q : Value) → flat (Quote q) ≡ Quote q ∷ []
flat_quote q = para_quote flat_step q

pub flat_call : (f : Symbol) (ts : List Term) → flat (Call f ts) ≡ implied (symbol_eq f implies_name) (map (λ u. (u, flat u)) ts) (Call f ts ∷ [])
flat_call f ts = para_call flat_step f ts
    ∙ ap (λ us. implied (symbol_eq f implies_name) (map (λ u. (u, flat u)) ts) (Call f us ∷ [])) (first_parts flat ts)

-- the cases of a body, and whether its recursion isn't nested
pub cases_var : (F : Symbol) (x : Symbol) → cases_of F (Var x) ≡ one_case F (Var x)
cases_var F x = para_var (cases_step F) x

pub cases_quote : (F : Symbol) (q : Value) → cases_of F (Quote q) ≡ one_case F (Quote q)
cases_quote F q = para_quote (cases_step F) q

pub cases_call : (F : Symbol) (f : Symbol) (ts : List Term) → cases_of F (Call f ts) ≡ at_branches F two_cases (one_case F (Call f ts)) (if_parts (symbol_eq f if_name) (map (λ u. (u, cases_of F u)) ts))
cases_call F f ts = para_call (cases_step F) f ts
    ∙ ap (λ us. at_branches F two_cases (one_case F (Call f us)) (if_parts (symbol_eq f if_name) (map (λ u. (u, cases_of F u)) ts))) (first_parts (cases_of F) ts)

pub unnested_var : (F : Symbol) (x : Symbol) → is_unnested F (Var x) ≡ true
unnested_var F x = para_var (unnested_step F) x

pub unnested_quote : (F : Symbol) (q : Value) → is_unnested F (Quote q) ≡ true
unnested_quote F q = para_quote (unnested_step F) q

pub unnested_call : (F : Symbol) (f : Symbol) (ts : List Term)
    → is_unnested F (Call f ts) ≡ at_branches F (clear_test F) (has_flat_calls F (calls_in F (Call f ts))) (if_parts (symbol_eq f if_name) (map (λ u. (u, is_unnested F u)) ts))
unnested_call F f ts = para_call (unnested_step F) f ts
    ∙ ap (λ us. at_branches F (clear_test F) (has_flat_calls F (calls_in F (Call f us))) (if_parts (symbol_eq f if_name) (map (λ u. (u, is_unnested F u)) ts))) (first_parts (is_unnested F) ts)

-- these equations compute the words on written terms
pub ruleset speaking = (vars_var, vars_quote, vars_call)

pub ruleset instances = (subst_var, subst_quote, subst_call)

pub ruleset clauses = (negate_var, negate_quote, negate_call, is_nil_var, is_nil_quote, is_nil_call, conjuncts_var, conjuncts_quote, conjuncts_call, flat_var, flat_quote, flat_call)

pub ruleset recursion = (differs_call, differs_quote, calls_var, calls_quote, calls_call, cases_var, cases_quote, cases_call, unnested_var, unnested_quote, unnested_call)
