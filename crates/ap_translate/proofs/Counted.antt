-- Counts of nodes as far as they are at most 4,096, and the instance that they are counts of.
use Rattle.std.proofs.Common.{◌≡◌, ℕ, ◌+◌, ◌<◌, ◌≤◌, Bool, true, false, cond, List, [], ◌∷◌, ◌++◌, map, zip, length, drop, get_or, Option, Some, None, unwrap_or, refl, sym, ap, ◌∙◌, length-append, arith}
use Rattle.std.proofs.lemmas.Bool.Decides.{nat_tests}
use Rattle.ap_list.specs.Lists.{lookup_by}
use Rattle.ap_value.specs.declared.symbol.Symbol.{Symbol}
use Rattle.ap_value.specs.declared.value.Value.{Value}
use Rattle.ap_value.specs.Values.{symbol_eq}
use Rattle.ap_value.specs.Counts.{node_count}
use Rattle.ap_term.specs.declared.term.Term.{Term, Var, Quote, Call}
use Rattle.ap_term.specs.Terms.{term_size, subst_of, size_step}
use Rattle.ap_term.proofs.Induction.{fold_var, fold_quote, fold_call}
use Rattle.ap_value.proofs.Equals.{symbol_eq-true}
use Rattle.ap_world.proofs.Written.{subst_var, subst_quote, subst_call}
use Rattle.ap_translate.proofs.Constants.{at_form}
use Rattle.ap_translate.specs.Instances.{Kept, nodes_found, sum_two, sum_known, nodes_step, nodes_of, at_most, more_than, replaced_by, kept_pair, known_pairs, kept_instance, in_turn_by, kept_in_turn, kept_by}

-- so many more are counted where they are at most 4,096
pub counted_low : (n m : ℕ) → n + m ≤ 4096 → Some (n + m) ≡ more_than n (Some m)
counted_low n m h = grind (arith, nat_tests)

pub counted_past : (n m : ℕ) → 4096 < n + m → None ≡ more_than n (Some m)
counted_past n m h = grind (arith, nat_tests)

pub counted_none : (n : ℕ) → None ≡ more_than n None
counted_none n = refl

pub ruleset more_thans = (counted_low, counted_past, counted_none)

-- what is counted, and more behind it
pub then_counted : (n m : ℕ) (o p : Option ℕ) → Some m ≡ more_than n o → more_than m p ≡ more_than n (sum_two o p)
then_counted n m None p h = cc
then_counted n m (Some k) None h = refl
then_counted n m (Some k) (Some j) h = let e : m + j ≡ n + (k + j) = grind (arith, nat_tests) in ap (λ x. at_most (Some x)) e

pub then_past : (n : ℕ) (o p : Option ℕ) → None ≡ more_than n o → None ≡ more_than n (sum_two o p)
then_past n None p h = refl
then_past n (Some k) None h = refl
then_past n (Some k) (Some j) h = grind (arith, nat_tests)

-- the next one of some terms, counted and past
pub next_counted : (g : Term → Option ℕ) (ts : List Term) (i n m : ℕ) (t : Term) (whole : Option ℕ) → i < length ts → t ≡ get_or ts i t → Some m ≡ more_than n (g t)
    → more_than n (sum_known (map g (drop i ts))) ≡ whole → more_than m (sum_known (map g (drop (i + 1) ts))) ≡ whole
next_counted g ts i n m t whole within at made so_far =
    then_counted n m (g t) (sum_known (map g (drop (i + 1) ts))) made ∙ ap (λ us. more_than n (sum_known (map g us))) (sym (at_form ts i t within at)) ∙ so_far

pub next_past : (g : Term → Option ℕ) (ts : List Term) (i n : ℕ) (t : Term) (whole : Option ℕ) → i < length ts → t ≡ get_or ts i t → None ≡ more_than n (g t)
    → more_than n (sum_known (map g (drop i ts))) ≡ whole → None ≡ whole
next_past g ts i n t whole within at past so_far =
    then_past n (g t) (sum_known (map g (drop (i + 1) ts))) past ∙ ap (λ us. more_than n (sum_known (map g us))) (sym (at_form ts i t within at)) ∙ so_far

-- the nodes at a variable, a constant and a call
pub nodes_var : (s : Kept) (x : Symbol) → nodes_of s (Var x) ≡ nodes_found (lookup_by symbol_eq s x)
nodes_var s x = fold_var (nodes_step s) x

pub nodes_quote : (s : Kept) (v : Value) → nodes_of s (Quote v) ≡ Some (node_count v)
nodes_quote s v = fold_quote (nodes_step s) v

pub nodes_call : (s : Kept) (f : Symbol) (ts : List Term) → nodes_of s (Call f ts) ≡ sum_two (Some 1) (sum_known (map (nodes_of s) ts))
nodes_call s f ts = fold_call (nodes_step s) f ts

pub size_of_quote : (v : Value) → term_size (Quote v) ≡ node_count v
size_of_quote v = fold_quote size_step v

pub ruleset counts = (nodes_var, nodes_quote, nodes_call, size_of_quote)

-- what a variable is replaced by
pub lookup_known : (s : Kept) (x : Symbol) → unwrap_or (lookup_by symbol_eq (known_pairs s) x) (Var x) ≡ replaced_by (lookup_by symbol_eq s x) x
lookup_known [] x = refl
lookup_known (p ∷ s) x = choose (symbol_eq x p.0) refl (lookup_known s x)
  where
    here : (o : Option Term) → x ≡ p.0 → unwrap_or o (Var p.0) ≡ replaced_by (Some o) x
    here None e = ap Var (sym e)
    here (Some u) e = refl

    choose : (b : Bool) → symbol_eq x p.0 ≡ b → unwrap_or (lookup_by symbol_eq (known_pairs s) x) (Var x) ≡ replaced_by (lookup_by symbol_eq s x) x
        → unwrap_or (cond b (Some (kept_pair p).1) (lookup_by symbol_eq (known_pairs s) x)) (Var x) ≡ replaced_by (cond b (Some p.1) (lookup_by symbol_eq s x)) x
    choose true q k = here p.1 (symbol_eq-true x p.0 q)
    choose false q k = k

pub copied_var : (s : Kept) (x : Symbol) → subst_of (known_pairs s) (Var x) ≡ replaced_by (lookup_by symbol_eq s x) x
copied_var s x = subst_var (known_pairs s) x ∙ lookup_known s x

pub ruleset copies = (copied_var, subst_quote, subst_call)

-- the last pair is taken first
option_same : (o : Option Term) → kept_by Some o ≡ o
option_same None = refl
option_same (Some a) = refl

turned : (p : Symbol × Option Term) (k : Term → Option Term) (o : Option Term) → in_turn_by p (kept_by k o) ≡ kept_by (λ u. in_turn_by p (k u)) o
turned p k None = refl
turned p k (Some u) = refl

pub last_turn : (names : List Symbol) (x : Symbol) (terms : List (Option Term)) (o : Option Term) (u : Term) → length names ≡ length terms
    → kept_in_turn (zip (names ++ x ∷ []) (terms ++ o ∷ [])) u ≡ kept_by (kept_in_turn (zip names terms)) (kept_instance ((x, o) ∷ []) u)
last_turn [] x [] o u h = sym (option_same (kept_instance ((x, o) ∷ []) u))
last_turn [] x (t ∷ ts) o u h = absurd (omega arith)
last_turn (n ∷ ns) x [] o u h = absurd (omega arith)
last_turn (n ∷ ns) x (t ∷ ts) o u h =
    ap (in_turn_by (n, t)) (last_turn ns x ts o u (omega arith)) ∙ turned (n, t) (kept_in_turn (zip ns ts)) (kept_instance ((x, o) ∷ []) u)

-- the same of a term that may not be kept
last_taken : (names : List Symbol) (x : Symbol) (terms : List (Option Term)) (o u : Option Term) → length names ≡ length terms
    → kept_by (kept_in_turn (zip (names ++ x ∷ []) (terms ++ o ∷ []))) u ≡ kept_by (kept_in_turn (zip names terms)) (in_turn_by (x, o) u)
last_taken names x terms o None h = refl
last_taken names x terms o (Some u) h = last_turn names x terms o u h

-- one turn of the loop: the last pair is taken
pub turn_back : (ns ns' : List Symbol) (x : Symbol) (ts ts' : List (Option Term)) (o u r whole : Option Term)
    → length ns ≡ length ts → ns ≡ ns' ++ x ∷ [] → ts ≡ ts' ++ o ∷ [] → r ≡ in_turn_by (x, o) u → kept_by (kept_in_turn (zip ns ts)) u ≡ whole
    → (kept_by (kept_in_turn (zip ns' ts')) r ≡ whole) × (length ns' ≡ length ts')
turn_back ns ns' x ts ts' o u r whole paired n t made told = (
  ap (kept_by (kept_in_turn (zip ns' ts'))) made ∙ sym (last_taken ns' x ts' o u same)
      ∙ ap (λ ys. kept_by (kept_in_turn (zip ys (ts' ++ o ∷ []))) u) (sym n) ∙ ap (λ ps. kept_by (kept_in_turn (zip ns ps)) u) (sym t) ∙ told,
  same,
)
  where
    same : length ns' ≡ length ts'
    same = omega (arith, ap length n, ap length t, length-append ns' (x ∷ []), length-append ts' (o ∷ []))

-- its end: no pair is left
pub turns_done : (ns : List Symbol) (ts : List (Option Term)) (u whole : Option Term) → length ns ≡ 0 → kept_by (kept_in_turn (zip ns ts)) u ≡ whole → u ≡ whole
turns_done [] ts u whole h told = sym (option_same u) ∙ told
turns_done (n ∷ ns) ts u whole h told = absurd (omega arith)
