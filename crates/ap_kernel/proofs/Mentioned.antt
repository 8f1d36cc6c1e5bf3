-- Which variables a term mentions, and what a formal is to a call.
use Rattle.std.proofs.Common.{◌≡◌, Bool, true, false, cond, ◌||◌, List, [], ◌∷◌, ◌++◌, map, refl, ap, sym, ◌∙◌}
use Rattle.ap_list.specs.Lists.{Each, is_among, in_turn}
use Rattle.ap_value.specs.declared.symbol.Symbol.{Symbol}
use Rattle.ap_value.specs.declared.value.Value.{Value}
use Rattle.ap_value.specs.Values.{symbol_eq}
use Rattle.ap_value.proofs.Equals.{symbol_eq-true}
use Rattle.ap_term.specs.declared.term.Term.{Term, Var, Quote, Call}
use Rattle.ap_term.specs.declared.term.Term.TheVariants.{outs-Var}
use Rattle.ap_term.specs.Equal.{same_step, term_eq}
use Rattle.ap_term.specs.Terms.{vars_after}
use Rattle.ap_term.proofs.Equals.{at_var}
use Rattle.ap_term.proofs.Induction.{term_ind, fold_var, fold_quote, fold_call}
use Rattle.ap_term.specs.declared.term.Term.TheOpen.{Term-F}
use Rattle.ap_world.proofs.Written.{vars_var, vars_quote, vars_call, differs_call, differs_quote}
use Rattle.ap_kernel.specs.Solving.{any_true, occurs_step, occurs}

or_assoc : (a b c : Bool) → ((a || b) || c) ≡ (a || (b || c))
or_assoc true b c = refl
or_assoc false b c = refl

among_last : (x y : Symbol) (xs : List Symbol) → is_among symbol_eq x (xs ++ y ∷ []) ≡ (is_among symbol_eq x xs || symbol_eq x y)
among_last x y [] = or_false (symbol_eq x y)
  where
    or_false : (b : Bool) → (b || false) ≡ b
    or_false true = refl
    or_false false = refl
among_last x y (z ∷ xs) = ap (λ b. symbol_eq x z || b) (among_last x y xs) ∙ sym (or_assoc (symbol_eq x z) (is_among symbol_eq x xs) (symbol_eq x y))

-- what a term adds to those that are seen
abbrev Adds : Symbol → Term → Type 0
Adds x u = (seen : List Symbol) → is_among symbol_eq x (vars_after u seen) ≡ (is_among symbol_eq x seen || is_among symbol_eq x (vars_after u []))

adds_var : (x y : Symbol) (seen : List Symbol) → is_among symbol_eq x (vars_after (Var y) seen) ≡ (is_among symbol_eq x seen || symbol_eq x y)
adds_var x y seen = ap (is_among symbol_eq x) (vars_var y seen) ∙ go (is_among symbol_eq y seen) refl (symbol_eq x y) refl
  where
    or_true : (b : Bool) → b ≡ true → b ≡ (b || true)
    or_true true h = refl
    or_true false h = cc

    or_no : (b : Bool) → b ≡ (b || false)
    or_no true = refl
    or_no false = refl

    go : (b : Bool) → is_among symbol_eq y seen ≡ b → (c : Bool) → symbol_eq x y ≡ c
        → is_among symbol_eq x (cond b seen (seen ++ y ∷ [])) ≡ (is_among symbol_eq x seen || c)
    go true p true q = or_true (is_among symbol_eq x seen) (ap (λ z. is_among symbol_eq z seen) (symbol_eq-true x y q) ∙ p)
    go true p false q = or_no (is_among symbol_eq x seen)
    go false p c q = among_last x y seen ∙ ap (λ d. is_among symbol_eq x seen || d) q

pub occurs_var : (x y : Symbol) → is_among symbol_eq x (vars_after (Var y) []) ≡ symbol_eq x y
occurs_var x y = adds_var x y []

pub occurs_quote : (x : Symbol) (q : Value) → is_among symbol_eq x (vars_after (Quote q) []) ≡ false
occurs_quote x q = ap (is_among symbol_eq x) (vars_quote q [])

adds_all : (x : Symbol) (ts : List Term) → Each (Adds x) ts → (seen : List Symbol)
    → is_among symbol_eq x (in_turn (map vars_after ts) seen) ≡ (is_among symbol_eq x seen || any_true (map (λ t. is_among symbol_eq x (vars_after t [])) ts))
adds_all x [] es seen = or_no (is_among symbol_eq x seen)
  where
    or_no : (b : Bool) → b ≡ (b || false)
    or_no true = refl
    or_no false = refl
adds_all x (t ∷ ts) es seen =
    adds_all x ts es.1 (vars_after t seen)
    ∙ ap (λ b. b || any_true (map (λ t. is_among symbol_eq x (vars_after t [])) ts)) (es.0 seen)
    ∙ or_assoc (is_among symbol_eq x seen) (is_among symbol_eq x (vars_after t [])) (any_true (map (λ t. is_among symbol_eq x (vars_after t [])) ts))

adds : (x : Symbol) (u : Term) → Adds x u
adds x u = term_ind (Adds x) variable quoted call u
  where
    variable : (y : Symbol) → Adds x (Var y)
    variable y seen = adds_var x y seen ∙ ap (λ b. is_among symbol_eq x seen || b) (sym (occurs_var x y))

    or_no : (b : Bool) → b ≡ (b || false)
    or_no true = refl
    or_no false = refl

    quoted : (q : Value) → Adds x (Quote q)
    quoted q seen = ap (is_among symbol_eq x) (vars_quote q seen) ∙ or_no (is_among symbol_eq x seen) ∙ ap (λ b. is_among symbol_eq x seen || b) (sym (occurs_quote x q))

    call : (f : Symbol) (ts : List Term) → Each (Adds x) ts → Adds x (Call f ts)
    call f ts es seen =
        ap (is_among symbol_eq x) (vars_call f ts seen) ∙ adds_all x ts es seen
        ∙ ap (λ b. is_among symbol_eq x seen || b) (sym (ap (is_among symbol_eq x) (vars_call f ts []) ∙ adds_all x ts es []))

each_adds : (x : Symbol) (ts : List Term) → Each (Adds x) ts
each_adds x [] = tt
each_adds x (t ∷ ts) = (adds x t, each_adds x ts)

pub occurs_call : (x f : Symbol) (ts : List Term) → is_among symbol_eq x (vars_after (Call f ts) []) ≡ any_true (map (λ t. is_among symbol_eq x (vars_after t [])) ts)
occurs_call x f ts = ap (is_among symbol_eq x) (vars_call f ts []) ∙ adds_all x ts (each_adds x ts) []

-- a variable occurs in a term exactly where it is one of its variables
pub occurs_among : (x : Symbol) (u : Term) → occurs x u ≡ is_among symbol_eq x (vars_after u [])
occurs_among x = term_ind Goal
    (λ y. fold_var (occurs_step x) y ∙ sym (occurs_var x y))
    (λ q. fold_quote (occurs_step x) q ∙ sym (occurs_quote x q))
    (λ f ts es. fold_call (occurs_step x) f ts ∙ ap any_true (all ts es) ∙ sym (occurs_call x f ts))
  where
    Goal : Term → Type 0
    Goal u = occurs x u ≡ is_among symbol_eq x (vars_after u [])

    all : (ts : List Term) → Each Goal ts → map (occurs x) ts ≡ map (λ t. is_among symbol_eq x (vars_after t [])) ts
    all [] es = refl
    all (t ∷ ts) es = let p = es.0 in let q = all ts es.1 in λ i. p i ∷ q i

pub same_var : (x y : Symbol) → term_eq (Var y) (Var x) ≡ symbol_eq y x
same_var x y = at_var (Var x) y ∙ ap (same_step (Term-F.Var y)) (outs-Var x)

pub ruleset comparing = (same_var, differs_call, differs_quote)
