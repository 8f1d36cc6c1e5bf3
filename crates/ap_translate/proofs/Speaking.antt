-- Which variables a term speaks of: one line for a variable, a constant and a call, and instances.
use Rattle.std.proofs.Common.{◌≡◌, Bool, true, false, cond, ◌&&◌, ◌||◌, List, [], ◌∷◌, ◌++◌, map, Some, unwrap_or, refl, sym, ap, ◌∙◌}
use Rattle.ap_list.specs.Lists.{Each, all_true, is_among, is_within, in_turn, lookup_by}
use Rattle.ap_value.specs.declared.symbol.Symbol.{Symbol}
use Rattle.ap_value.specs.declared.value.Value.{Value}
use Rattle.ap_value.specs.Values.{symbol_eq}
use Rattle.ap_value.proofs.Equals.{symbol_eq-true}
use Rattle.ap_term.specs.declared.term.Term.{Term, Var, Quote, Call}
use Rattle.ap_term.specs.Terms.{vars_after, subst_of}
use Rattle.ap_term.proofs.Induction.{term_ind}
use Rattle.ap_world.specs.Sound.{speaks_of}
use Rattle.ap_world.proofs.Knowing.{true_each, each_true}
use Rattle.ap_world.proofs.Written.{vars_var, vars_quote, vars_call, subst_var, subst_quote, subst_call}

and_assoc : (a b c : Bool) → ((a && b) && c) ≡ (a && (b && c))
and_assoc true b c = refl
and_assoc false b c = refl

and_same : (a b : Bool) → (a ≡ true → b ≡ true) → a ≡ (a && b)
and_same true b h = sym (h refl)
and_same false b h = refl

and_one : (a : Bool) → (a && true) ≡ a
and_one true = refl
and_one false = refl

within_append : (xs ys zs : List Symbol) → is_within symbol_eq (xs ++ ys) zs ≡ (is_within symbol_eq xs zs && is_within symbol_eq ys zs)
within_append [] ys zs = refl
within_append (x ∷ xs) ys zs =
    ap (λ b. is_among symbol_eq x zs && b) (within_append xs ys zs) ∙ sym (and_assoc (is_among symbol_eq x zs) (is_within symbol_eq xs zs) (is_within symbol_eq ys zs))

-- one of those that are within the list is in the list
among_within : (x : Symbol) (xs zs : List Symbol) → is_among symbol_eq x xs ≡ true → is_within symbol_eq xs zs ≡ true → is_among symbol_eq x zs ≡ true
among_within x [] zs h k = absurd (no h)
  where
    no : false ≡ true → ⊥
    no q = cc
among_within x (y ∷ ys) zs h k = by_first (symbol_eq x y) refl (is_among symbol_eq y zs) refl h k (λ l n. among_within x ys zs l n)
  where
    no : false ≡ true → ⊥
    no q = cc

    by_first : (b : Bool) → symbol_eq x y ≡ b → (d : Bool) → is_among symbol_eq y zs ≡ d → (b || is_among symbol_eq x ys) ≡ true → (d && is_within symbol_eq ys zs) ≡ true
        → (is_among symbol_eq x ys ≡ true → is_within symbol_eq ys zs ≡ true → is_among symbol_eq x zs ≡ true) → is_among symbol_eq x zs ≡ true
    by_first b q false e l n r = absurd (no n)
    by_first true q true e l n r = ap (λ z. is_among symbol_eq z zs) (symbol_eq-true x y q) ∙ e
    by_first false q true e l n r = r l n

-- the variables after others are in the list where these are, and the term's are
abbrev After : List Symbol → Term → Type 0
After zs u = (seen : List Symbol) → is_within symbol_eq (vars_after u seen) zs ≡ (is_within symbol_eq seen zs && speaks_of zs u)

var_speaks : (zs : List Symbol) (x : Symbol) → speaks_of zs (Var x) ≡ is_among symbol_eq x zs
var_speaks zs x = ap (λ xs. is_within symbol_eq xs zs) (vars_var x []) ∙ and_one (is_among symbol_eq x zs)

quote_speaks : (zs : List Symbol) (v : Value) → speaks_of zs (Quote v) ≡ true
quote_speaks zs v = ap (λ xs. is_within symbol_eq xs zs) (vars_quote v [])

args_after : (zs : List Symbol) (ts : List Term) → Each (After zs) ts → (seen : List Symbol)
    → is_within symbol_eq (in_turn (map vars_after ts) seen) zs ≡ (is_within symbol_eq seen zs && all_true (map (speaks_of zs) ts))
args_after zs [] es seen = sym (and_one (is_within symbol_eq seen zs))
args_after zs (t ∷ ts) es seen =
    args_after zs ts es.1 (vars_after t seen) ∙ ap (λ b. b && all_true (map (speaks_of zs) ts)) (es.0 seen)
    ∙ and_assoc (is_within symbol_eq seen zs) (speaks_of zs t) (all_true (map (speaks_of zs) ts))

-- of a call, where it is so of its arguments
call_by : (zs : List Symbol) (f : Symbol) (ts : List Term) → Each (After zs) ts → speaks_of zs (Call f ts) ≡ all_true (map (speaks_of zs) ts)
call_by zs f ts es = ap (λ xs. is_within symbol_eq xs zs) (vars_call f ts []) ∙ args_after zs ts es []

after : (zs : List Symbol) (u : Term) → After zs u
after zs = term_ind (After zs) variable constant call
  where
    at_var : (x : Symbol) (seen : List Symbol) (b : Bool) → is_among symbol_eq x seen ≡ b
        → is_within symbol_eq (cond b seen (seen ++ x ∷ [])) zs ≡ (is_within symbol_eq seen zs && is_among symbol_eq x zs)
    at_var x seen true q = and_same (is_within symbol_eq seen zs) (is_among symbol_eq x zs) (λ h. among_within x seen zs q h)
    at_var x seen false q = within_append seen (x ∷ []) zs ∙ ap (λ b. is_within symbol_eq seen zs && b) (and_one (is_among symbol_eq x zs))

    variable : (x : Symbol) → After zs (Var x)
    variable x = λ seen.
        ap (λ xs. is_within symbol_eq xs zs) (vars_var x seen) ∙ at_var x seen (is_among symbol_eq x seen) refl
        ∙ ap (λ b. is_within symbol_eq seen zs && b) (sym (var_speaks zs x))

    constant : (v : Value) → After zs (Quote v)
    constant v = λ seen.
        ap (λ xs. is_within symbol_eq xs zs) (vars_quote v seen) ∙ sym (and_one (is_within symbol_eq seen zs))
        ∙ ap (λ b. is_within symbol_eq seen zs && b) (sym (quote_speaks zs v))

    call : (f : Symbol) (ts : List Term) → Each (After zs) ts → After zs (Call f ts)
    call f ts es = λ seen.
        ap (λ xs. is_within symbol_eq xs zs) (vars_call f ts seen) ∙ args_after zs ts es seen
        ∙ ap (λ b. is_within symbol_eq seen zs && b) (sym (call_by zs f ts es))

each_after : (zs : List Symbol) (ts : List Term) → Each (After zs) ts
each_after zs [] = tt
each_after zs (t ∷ ts) = (after zs t, each_after zs ts)

pub speaks_var : (zs : List Symbol) (x : Symbol) → speaks_of zs (Var x) ≡ is_among symbol_eq x zs
speaks_var zs x = var_speaks zs x

pub speaks_quote : (zs : List Symbol) (v : Value) → speaks_of zs (Quote v) ≡ true
speaks_quote zs v = quote_speaks zs v

pub speaks_call : (zs : List Symbol) (f : Symbol) (ts : List Term) → speaks_of zs (Call f ts) ≡ all_true (map (speaks_of zs) ts)
speaks_call zs f ts = call_by zs f ts (each_after zs ts)

-- an instance speaks of the list where what replaces its variables does, and the term speaks of these and the list
or_assoc : (a b c : Bool) → ((a || b) || c) ≡ (a || (b || c))
or_assoc true b c = refl
or_assoc false b c = refl

or_false : (a : Bool) → (a || false) ≡ true → a ≡ true
or_false true k = refl
or_false false k = k

among_append : (x : Symbol) (ys zs : List Symbol) → is_among symbol_eq x (ys ++ zs) ≡ (is_among symbol_eq x ys || is_among symbol_eq x zs)
among_append x [] zs = refl
among_append x (y ∷ ys) zs = ap (λ b. symbol_eq x y || b) (among_append x ys zs) ∙ sym (or_assoc (symbol_eq x y) (is_among symbol_eq x ys) (is_among symbol_eq x zs))

found_or_bound : (zs : List Symbol) (ss : List (Symbol × Term)) (x : Symbol) → Each (λ s. speaks_of zs s.1 ≡ true) ss
    → (is_among symbol_eq x zs || is_among symbol_eq x (map (λ s. s.0) ss)) ≡ true → speaks_of zs (unwrap_or (lookup_by symbol_eq ss x) (Var x)) ≡ true
found_or_bound zs [] x hs h = var_speaks zs x ∙ or_false (is_among symbol_eq x zs) h
found_or_bound zs (s ∷ ss) x hs h = by_first (symbol_eq x s.0) h (λ l. found_or_bound zs ss x hs.1 l)
  where
    by_first : (b : Bool) → (is_among symbol_eq x zs || (b || is_among symbol_eq x (map (λ r. r.0) ss))) ≡ true
        → ((is_among symbol_eq x zs || is_among symbol_eq x (map (λ r. r.0) ss)) ≡ true → speaks_of zs (unwrap_or (lookup_by symbol_eq ss x) (Var x)) ≡ true)
        → speaks_of zs (unwrap_or (cond b (Some s.1) (lookup_by symbol_eq ss x)) (Var x)) ≡ true
    by_first true l n = hs.0
    by_first false l n = n l

pub speaks_instance : (zs : List Symbol) (ss : List (Symbol × Term)) (u : Term) → Each (λ s. speaks_of zs s.1 ≡ true) ss → speaks_of (zs ++ map (λ s. s.0) ss) u ≡ true
    → speaks_of zs (subst_of ss u) ≡ true
speaks_instance zs ss u hs h = term_ind Goal variable constant call u h
  where
    Goal : Term → Type 0
    Goal u = speaks_of (zs ++ map (λ s. s.0) ss) u ≡ true → speaks_of zs (subst_of ss u) ≡ true

    variable : (x : Symbol) → Goal (Var x)
    variable x = λ k. ap (speaks_of zs) (subst_var ss x) ∙ found_or_bound zs ss x hs (sym (among_append x zs (map (λ s. s.0) ss)) ∙ sym (var_speaks (zs ++ map (λ s. s.0) ss) x) ∙ k)

    constant : (v : Value) → Goal (Quote v)
    constant v = λ k. ap (speaks_of zs) (subst_quote ss v) ∙ quote_speaks zs v

    args : (ts : List Term) → Each Goal ts → Each (λ u. speaks_of (zs ++ map (λ s. s.0) ss) u ≡ true) ts → Each (λ u. speaks_of zs u ≡ true) (map (subst_of ss) ts)
    args [] es ks = tt
    args (t ∷ ts) es ks = (es.0 ks.0, args ts es.1 ks.1)

    call : (f : Symbol) (ts : List Term) → Each Goal ts → Goal (Call f ts)
    call f ts es = λ k.
        ap (speaks_of zs) (subst_call ss f ts) ∙ speaks_call zs f (map (subst_of ss) ts)
        ∙ true_each (speaks_of zs) (map (subst_of ss) ts)
        (args ts es (each_true (speaks_of (zs ++ map (λ s. s.0) ss)) ts (sym (speaks_call (zs ++ map (λ s. s.0) ss) f ts) ∙ k)))
