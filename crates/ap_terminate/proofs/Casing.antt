-- What the cases of a term are, by the branches that tell them apart.
use Rattle.std.proofs.Common.{◌≡◌, ◌+◌, ◌<◌, Bool, true, false, cond, ◌&&◌, List, [], ◌∷◌, ◌++◌, map, Option, Some, None, refl, ap, sym, ◌∙◌, append_assoc, subst, arith}
use Rattle.ap_list.specs.Lists.{Each}
use Rattle.ap_value.specs.declared.symbol.Symbol.{Symbol}
use Rattle.ap_value.specs.declared.value.Value.{Value}
use Rattle.ap_value.specs.Values.{symbol_eq}
use Rattle.ap_term.specs.declared.term.Term.{Term, Var, Quote, Call}
use Rattle.ap_term.specs.declared.term.Term.TheVariants.{outs-Var, outs-Quote, outs-Call}
use Rattle.ap_term.specs.Terms.{size_step, term_size}
use Rattle.ap_term.proofs.Induction.{term_ind, fold_call}
use Rattle.ap_world.specs.declared.entry.Case.{Case}
use Rattle.ap_world.specs.Names.{if_name, not_name, equal_name, cons_name}
use Rattle.ap_world.specs.Clauses.{not_of, if_parts}
use Rattle.ap_world.specs.Shapes.{Shape, choice, head_by, head_of, call_shape, shape_of}
use Rattle.ap_world.specs.Recursion.{calls_in, has_no_call, at_branches, with_test, two_cases, one_case, cases_of, has_flat_calls, clear_test, is_unnested}
use Rattle.ap_world.proofs.Shaped.{Says, shape_says}
use Rattle.ap_world.proofs.Written.{calls_var, calls_quote, cases_var, cases_quote, cases_call, unnested_var, unnested_quote, unnested_call}
use Rattle.ap_terminate.specs.Distinct.{under_tests}
use Rattle.ap_terminate.specs.Branches.{branches}

-- what is made of the branches, and what of a term that has none
abbrev pub by_branches : {A : Type 0} → (Term → A → A → A) → (Term → A) → A → Option (Term × Term × Term) → A
by_branches both m leaf None = leaf
by_branches both m leaf (Some (a, b, c)) = both a (m b) (m c)

module _ {A : Type 0} (F : Symbol) (both : Term → A → A → A) (m : Term → A) (leaf : A) where
  at_choice : (a b c : Term) (t : Bool) → cond t leaf (both a (m b) (m c)) ≡ by_branches both m leaf (cond t None (Some (a, b, c)))
  at_choice a b c true = refl
  at_choice a b c false = refl

  at_head : (i n e k : Bool) (ts : List Term)
      → at_branches F both leaf (if_parts i (map (λ u. (u, m u)) ts)) ≡ by_branches both m leaf (branches F (call_shape (head_by i n e k) ts))
  at_head true n e k (a ∷ b ∷ c ∷ []) = at_choice a b c (has_no_call F b && has_no_call F c)
  at_head true n e k ts = refl
  at_head false true e k (a ∷ []) = refl
  at_head false true e k ts = refl
  at_head false false true k (a ∷ b ∷ []) = refl
  at_head false false true k ts = refl
  at_head false false false true (a ∷ b ∷ []) = refl
  at_head false false false true ts = refl
  at_head false false false false ts = refl

  at_call : (f : Symbol) (ts : List Term) → at_branches F both leaf (if_parts (symbol_eq f if_name) (map (λ u. (u, m u)) ts)) ≡ by_branches both m leaf (branches F (shape_of (Call f ts)))
  unfolding head_of
  at_call f ts = rw (outs-Call f ts) (at_head (symbol_eq f if_name) (symbol_eq f not_name) (symbol_eq f equal_name) (symbol_eq f cons_name) ts)

pub cases_by : (F : Symbol) (u : Term) → cases_of F u ≡ by_branches two_cases (cases_of F) (one_case F u) (branches F (shape_of u))
cases_by F u = term_ind Goal variable quoted call u
  where
    Goal : Term → Type 0
    Goal u = cases_of F u ≡ by_branches two_cases (cases_of F) (one_case F u) (branches F (shape_of u))

    variable : (x : Symbol) → Goal (Var x)
    variable x = rw (outs-Var x) (cases_var F x)

    quoted : (v : Value) → Goal (Quote v)
    quoted v = rw (outs-Quote v) (cases_quote F v)

    call : (f : Symbol) (ts : List Term) → Each Goal ts → Goal (Call f ts)
    call f ts es = cases_call F f ts ∙ at_call F two_cases (cases_of F) (one_case F (Call f ts)) f ts

pub unnested_by : (F : Symbol) (u : Term) → is_unnested F u ≡ by_branches (clear_test F) (is_unnested F) (has_flat_calls F (calls_in F u)) (branches F (shape_of u))
unnested_by F u = term_ind Goal variable quoted call u
  where
    Goal : Term → Type 0
    Goal u = is_unnested F u ≡ by_branches (clear_test F) (is_unnested F) (has_flat_calls F (calls_in F u)) (branches F (shape_of u))

    variable : (x : Symbol) → Goal (Var x)
    variable x = rw (outs-Var x) (unnested_var F x ∙ sym (ap (has_flat_calls F) (calls_var F x)))

    quoted : (v : Value) → Goal (Quote v)
    quoted v = rw (outs-Quote v) (unnested_quote F v ∙ sym (ap (has_flat_calls F) (calls_quote F v)))

    call : (f : Symbol) (ts : List Term) → Each Goal ts → Goal (Call f ts)
    call f ts es = unnested_call F f ts ∙ at_call F (clear_test F) (is_unnested F) (has_flat_calls F (calls_in F (Call f ts))) f ts

-- the branches of a term are smaller than it
pub branches_smaller : (u a b c : Term) → shape_of u ≡ choice a b c → (term_size b < term_size u) × (term_size c < term_size u)
branches_smaller u a b c h =
    let is : u ≡ Call if_name (a ∷ b ∷ c ∷ []) = says (shape_of u) h (shape_says u) in
    let size : term_size u ≡ term_size a + (term_size b + (term_size c + 0)) + 1 = ap term_size is ∙ fold_call size_step if_name (a ∷ b ∷ c ∷ []) in
    (omega arith, omega arith)
  where
    says : (y : Shape Term) → y ≡ choice a b c → Says u y → u ≡ Call if_name (a ∷ b ∷ c ∷ [])
    says y e s = subst (Says u) e s

-- cases under tests
under_append : (ts : List Term) (ks ls : List Case) → map (under_tests ts) (ks ++ ls) ≡ map (under_tests ts) ks ++ map (under_tests ts) ls
under_append ts [] ls = refl
under_append ts (k ∷ ks) ls = ap (λ rest. under_tests ts k ∷ rest) (under_append ts ks ls)

under_more : (ts : List Term) (a : Term) (ks : List Case) → map (under_tests ts) (map (with_test a) ks) ≡ map (under_tests (ts ++ a ∷ [])) ks
under_more ts a [] = refl
under_more ts a (k ∷ ks) =
    let p = sym (append_assoc ts (a ∷ []) k.tests) in
    let q = under_more ts a ks in
    λ i. record { tests = p i; calls = k.calls } ∷ q i

pub under_none : (ks : List Case) → map (under_tests []) ks ≡ ks
under_none [] = refl
under_none (k ∷ ks) = ap (λ rest. k ∷ rest) (under_none ks)

pub cases_whole : (F : Symbol) (u : Term) → branches F (shape_of u) ≡ None → cases_of F u ≡ one_case F u
cases_whole F u h = cases_by F u ∙ ap (by_branches two_cases (cases_of F) (one_case F u)) h

pub cases_split : (F : Symbol) (u a b c : Term) (ts : List Term) → branches F (shape_of u) ≡ Some (a, b, c)
    → map (under_tests ts) (cases_of F u) ≡ map (under_tests (ts ++ a ∷ [])) (cases_of F b) ++ map (under_tests (ts ++ not_of a ∷ [])) (cases_of F c)
cases_split F u a b c ts h =
    ap (map (under_tests ts)) (cases_by F u ∙ ap (by_branches two_cases (cases_of F) (one_case F u)) h)
    ∙ under_append ts (map (with_test a) (cases_of F b)) (map (with_test (not_of a)) (cases_of F c))
    ∙ (let p = under_more ts a (cases_of F b) in let q = under_more ts (not_of a) (cases_of F c) in λ i. p i ++ q i)

pub unnested_whole : (F : Symbol) (u : Term) → branches F (shape_of u) ≡ None → is_unnested F u ≡ has_flat_calls F (calls_in F u)
unnested_whole F u h = unnested_by F u ∙ ap (by_branches (clear_test F) (is_unnested F) (has_flat_calls F (calls_in F u))) h

pub unnested_split : (F : Symbol) (u a b c : Term) → branches F (shape_of u) ≡ Some (a, b, c) → is_unnested F u ≡ (has_no_call F a && (is_unnested F b && is_unnested F c))
unnested_split F u a b c h = unnested_by F u ∙ ap (by_branches (clear_test F) (is_unnested F) (has_flat_calls F (calls_in F u))) h

-- the cases of both branches, added one after the other
pub split_steps : (F : Symbol) (u a b c : Term) (ts hs fs : List Term) (out new : List Case) → branches F (shape_of u) ≡ Some (a, b, c) → hs ≡ ts ++ a ∷ [] → fs ≡ ts ++ not_of a ∷ []
    → new ≡ out ++ map (under_tests hs) (cases_of F b) → out ++ map (under_tests ts) (cases_of F u) ≡ new ++ map (under_tests fs) (cases_of F c)
split_steps F u a b c ts hs fs out new h held failed made =
    ap (λ ks. out ++ ks) (cases_split F u a b c ts h)
    ∙ sym (append_assoc out (map (under_tests (ts ++ a ∷ [])) (cases_of F b)) (map (under_tests (ts ++ not_of a ∷ [])) (cases_of F c)))
    ∙ (λ i. (out ++ map (under_tests (sym held i)) (cases_of F b)) ++ map (under_tests (sym failed i)) (cases_of F c))
    ∙ ap (λ ks. ks ++ map (under_tests fs) (cases_of F c)) (sym made)
