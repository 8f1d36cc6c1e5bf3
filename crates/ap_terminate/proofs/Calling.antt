-- What the calls of a function are at each kind of term, and how distinct ones are gathered one after another.
use Rattle.std.proofs.Common.{◌≡◌, ℕ, suc, ◌+◌, ◌<◌, Bool, true, false, cond, not, ◌&&◌, ◌||◌, List, [], ◌∷◌, ◌++◌, map, refl, ap, sym, ◌∙◌, append_assoc, length, drop, get_or, arith}
use Rattle.std.proofs.Math.Seq.{drop-cons}
use Rattle.std.proofs.lemmas.List.{append-nil}
use Rattle.ap_list.specs.Lists.{all_true, joined, is_among}
use Rattle.ap_value.specs.declared.symbol.Symbol.{Symbol}
use Rattle.ap_value.specs.declared.value.Value.{Value}
use Rattle.ap_value.specs.Values.{symbol_eq}
use Rattle.ap_term.specs.declared.term.Term.{Term, Var, Quote, Call}
use Rattle.ap_world.specs.Recursion.{args_eq, without_repeats, is_empty, own_call, calls_in, has_no_call, has_flat_calls}
use Rattle.ap_world.proofs.Written.{calls_var, calls_quote, calls_call}
use Rattle.ap_terminate.specs.Distinct.{with_distinct}

and_assoc : (a b c : Bool) → ((a && b) && c) ≡ (a && (b && c))
and_assoc true b c = refl
and_assoc false b c = refl

or_assoc : (a b c : Bool) → ((a || b) || c) ≡ (a || (b || c))
or_assoc true b c = refl
or_assoc false b c = refl

or_swap : (a b : Bool) → (a || (b || false)) ≡ (b || a)
or_swap true true = refl
or_swap true false = refl
or_swap false true = refl
or_swap false false = refl

-- whether a term has a call
module _ (F : Symbol) where
  pub no_call_var : (x : Symbol) → has_no_call F (Var x) ≡ true
  no_call_var x = ap is_empty (calls_var F x)

  pub no_call_quote : (q : Value) → has_no_call F (Quote q) ≡ true
  no_call_quote q = ap is_empty (calls_quote F q)

  empty_append : (xs ys : List (List Term)) → is_empty (xs ++ ys) ≡ (is_empty xs && is_empty ys)
  empty_append [] ys = refl
  empty_append (x ∷ xs) ys = refl

  empty_joined : (ts : List Term) → is_empty (joined (map (calls_in F) ts)) ≡ all_true (map (has_no_call F) ts)
  empty_joined [] = refl
  empty_joined (t ∷ ts) = empty_append (calls_in F t) (joined (map (calls_in F) ts)) ∙ ap (λ b. has_no_call F t && b) (empty_joined ts)

  empty_own : (b : Bool) (ts : List Term) → is_empty (cond b (ts ∷ []) []) ≡ not b
  empty_own true ts = refl
  empty_own false ts = refl

  pub no_call_call : (f : Symbol) (ts : List Term) → has_no_call F (Call f ts) ≡ (not (symbol_eq f F) && all_true (map (has_no_call F) ts))
  no_call_call f ts = ap is_empty (calls_call F f ts) ∙ empty_append (own_call F f ts) (joined (map (calls_in F) ts))
      ∙ (let p = empty_own (symbol_eq f F) ts in let q = empty_joined ts in λ i. p i && q i)

-- so, what the program finds of a call
pub no_call_own : (F f : Symbol) (t : Term) (ts : List Term) → t ≡ Call f ts → symbol_eq f F ≡ true → false ≡ has_no_call F t
no_call_own F f t ts e q = sym (ap (has_no_call F) e ∙ no_call_call F f ts ∙ ap (λ b. not b && all_true (map (has_no_call F) ts)) q)

pub no_call_other : (F f : Symbol) (t : Term) (ts us : List Term) → t ≡ Call f ts → us ≡ ts → symbol_eq f F ≡ false → all_true (map (has_no_call F) us) ≡ has_no_call F t
no_call_other F f t ts us e same q =
    ap (λ vs. all_true (map (has_no_call F) vs)) same
    ∙ sym (ap (has_no_call F) e ∙ no_call_call F f ts ∙ ap (λ b. not b && all_true (map (has_no_call F) ts)) q)

-- whether none has another one in its arguments
abbrev pub each_flat : Symbol → List Term → Bool
each_flat F ts = all_true (map (λ t. has_flat_calls F (calls_in F t)) ts)

module _ (F : Symbol) where
  pub flat_calls_var : (x : Symbol) → has_flat_calls F (calls_in F (Var x)) ≡ true
  flat_calls_var x = ap (has_flat_calls F) (calls_var F x)

  pub flat_calls_quote : (q : Value) → has_flat_calls F (calls_in F (Quote q)) ≡ true
  flat_calls_quote q = ap (has_flat_calls F) (calls_quote F q)

  flat_append : (xs ys : List (List Term)) → has_flat_calls F (xs ++ ys) ≡ (has_flat_calls F xs && has_flat_calls F ys)
  flat_append [] ys = refl
  flat_append (x ∷ xs) ys =
      ap (λ b. all_true (map (has_no_call F) x) && b) (flat_append xs ys)
      ∙ sym (and_assoc (all_true (map (has_no_call F) x)) (has_flat_calls F xs) (has_flat_calls F ys))

  flat_joined : (ts : List Term) → has_flat_calls F (joined (map (calls_in F) ts)) ≡ each_flat F ts
  flat_joined [] = refl
  flat_joined (t ∷ ts) = flat_append (calls_in F t) (joined (map (calls_in F) ts)) ∙ ap (λ b. has_flat_calls F (calls_in F t) && b) (flat_joined ts)

  pub flat_calls_call : (f : Symbol) (t : Term) (ts us : List Term) → t ≡ Call f ts → us ≡ ts → (has_flat_calls F (own_call F f us) && each_flat F us) ≡ has_flat_calls F (calls_in F t)
  flat_calls_call f t ts us e same =
      ap (λ vs. has_flat_calls F (own_call F f vs) && each_flat F vs) same
      ∙ sym (ap (λ u. has_flat_calls F (calls_in F u)) e ∙ ap (has_flat_calls F) (calls_call F f ts) ∙ flat_append (own_call F f ts) (joined (map (calls_in F) ts))
      ∙ ap (λ b. has_flat_calls F (own_call F f ts) && b) (flat_joined ts))

  pub flat_own : (f : Symbol) (ts : List Term) → symbol_eq f F ≡ true → all_true (map (has_no_call F) ts) ≡ has_flat_calls F (own_call F f ts)
  flat_own f ts q = and_true_right (all_true (map (has_no_call F) ts)) ∙ sym (ap (λ b. has_flat_calls F (cond b (ts ∷ []) [])) q)
    where
      and_true_right : (b : Bool) → b ≡ (b && true)
      and_true_right true = refl
      and_true_right false = refl

-- one that is seen first or last is seen
among_append : (c : List Term) (xs ys : List (List Term)) → is_among args_eq c (xs ++ ys) ≡ (is_among args_eq c xs || is_among args_eq c ys)
among_append c [] ys = refl
among_append c (x ∷ xs) ys = ap (λ b. args_eq c x || b) (among_append c xs ys) ∙ sym (or_assoc (args_eq c x) (is_among args_eq c xs) (is_among args_eq c ys))

-- what is left out depends on what is seen alone
same_seen : (s r : List (List Term)) → ((c : List Term) → is_among args_eq c s ≡ is_among args_eq c r) → (cs : List (List Term)) → without_repeats s cs ≡ without_repeats r cs
same_seen s r h [] = refl
same_seen s r h (c ∷ cs) =
    let old = same_seen s r h cs in
    let new = same_seen (c ∷ s) (c ∷ r) (λ d. ap (λ b. args_eq d c || b) (h d)) cs in
    let b = h c in
    λ i. cond (b i) (old i) (c ∷ new i)

-- the first of the calls is added or is there, and then the others
next_distinct : (seen : List (List Term)) (c : List Term) (cs : List (List Term)) → with_distinct seen (c ∷ cs) ≡ with_distinct (with_distinct seen (c ∷ [])) cs
unfolding with_distinct
next_distinct seen c cs = go (is_among args_eq c seen) refl
  where
    last : (d : List Term) → is_among args_eq d (c ∷ seen) ≡ is_among args_eq d (seen ++ c ∷ [])
    last d = sym (among_append d seen (c ∷ []) ∙ or_swap (is_among args_eq d seen) (args_eq d c))

    go : (b : Bool) → is_among args_eq c seen ≡ b
        → seen ++ cond b (without_repeats seen cs) (c ∷ without_repeats (c ∷ seen) cs) ≡ with_distinct (seen ++ cond b [] (c ∷ [])) cs
    go true q = sym (ap (λ s. with_distinct s cs) (append-nil seen))
    go false q = sym (append_assoc seen (c ∷ []) (without_repeats (c ∷ seen) cs)) ∙ ap (λ r. (seen ++ c ∷ []) ++ r) (same_seen (c ∷ seen) (seen ++ c ∷ []) last cs)

pub none_distinct : (seen : List (List Term)) → with_distinct seen [] ≡ seen
unfolding with_distinct
none_distinct seen = append-nil seen

pub more_distinct : (seen xs ys : List (List Term)) → with_distinct seen (xs ++ ys) ≡ with_distinct (with_distinct seen xs) ys
more_distinct seen [] ys = ap (λ s. with_distinct s ys) (sym (none_distinct seen))
more_distinct seen (x ∷ xs) ys =
    next_distinct seen x (xs ++ ys) ∙ more_distinct (with_distinct seen (x ∷ [])) xs ys ∙ ap (λ s. with_distinct s ys) (sym (next_distinct seen x xs))

-- so the calls of a term: its own, if it is one, and then those of its arguments
pub distinct_var : (F x : Symbol) (t : Term) (seen : List (List Term)) → t ≡ Var x → seen ≡ with_distinct seen (calls_in F t)
distinct_var F x t seen e = sym (ap (λ u. with_distinct seen (calls_in F u)) e ∙ ap (with_distinct seen) (calls_var F x) ∙ none_distinct seen)

pub distinct_quote : (F : Symbol) (q : Value) (t : Term) (seen : List (List Term)) → t ≡ Quote q → seen ≡ with_distinct seen (calls_in F t)
distinct_quote F q t seen e = sym (ap (λ u. with_distinct seen (calls_in F u)) e ∙ ap (with_distinct seen) (calls_quote F q) ∙ none_distinct seen)

pub distinct_call : (F f : Symbol) (t : Term) (ts us : List Term) (seen : List (List Term)) → t ≡ Call f ts → us ≡ ts
    → with_distinct (with_distinct seen (own_call F f us)) (joined (map (calls_in F) us)) ≡ with_distinct seen (calls_in F t)
distinct_call F f t ts us seen e same =
    ap (λ vs. with_distinct (with_distinct seen (own_call F f vs)) (joined (map (calls_in F) vs))) same
    ∙ sym (ap (λ u. with_distinct seen (calls_in F u)) e ∙ ap (with_distinct seen) (calls_call F f ts) ∙ more_distinct seen (own_call F f ts) (joined (map (calls_in F) ts)))

-- a list from a place on begins with the item there
pub from_item : {A : Type 0} (xs : List A) (i : ℕ) (x : A) → i < length xs → x ≡ get_or xs i x → drop i xs ≡ x ∷ drop (i + 1) xs
from_item xs i x h e =
    let more : suc i ≡ i + 1 = omega arith in
    drop-cons xs i x h ∙ (λ k. sym e k ∷ drop (more k) xs)
