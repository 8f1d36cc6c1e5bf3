-- A world with one function more: what of its body the world without it knows.
use Rattle.std.proofs.Common.{◌≡◌, ℕ, Bool, true, false, ◌&&◌, cond, List, [], ◌∷◌, ◌++◌, map, length, Option, Some, None, refl, sym, ap, ◌∙◌, subst, eqb-true}
use Rattle.ap_list.specs.Lists.{Each, all_true, joined}
use Rattle.ap_value.specs.declared.symbol.Symbol.{Symbol}
use Rattle.ap_value.specs.Values.{symbol_eq}
use Rattle.ap_value.proofs.Equals.{both, symbol_eq-true}
use Rattle.ap_term.specs.declared.term.Term.{Term, Var, Quote, Call}
use Rattle.ap_term.proofs.Induction.{term_ind}
use Rattle.ap_world.specs.declared.entry.Case.{Case}
use Rattle.ap_world.specs.declared.entry.Function.{Function}
use Rattle.ap_world.specs.declared.entry.Entry.{Entry}
use Rattle.ap_world.specs.declared.entry.Entry.TheVariants as entry
use Rattle.ap_world.specs.Names.{if_name}
use Rattle.ap_world.specs.declared.primitive.Primitive.{Primitive as Prim}
use Rattle.ap_world.specs.Primitives.{prim_of}
use Rattle.ap_world.specs.Meaning.{Defs}
use Rattle.ap_world.specs.Clauses.{not_of, if_parts}
use Rattle.ap_world.specs.Recursion.{is_empty, own_call, calls_in, has_no_call, at_branches, with_test, two_cases, one_case, cases_of, has_flat_calls, clear_test, is_unnested}
use Rattle.ap_world.specs.Sound.{is_head, takes, known}
use Rattle.ap_world.specs.World.{function_of, has_name}
use Rattle.ap_world.proofs.Knowing.{known_var, known_quote, known_head, known_args, known_by, each_true, true_each, each_same}
use Rattle.ap_world.proofs.Extending.{Extends, extends-append, not_taken, function_of-here, function_of-other}
use Rattle.ap_world.proofs.Written.{calls_var, calls_quote, calls_call, cases_var, cases_quote, cases_call, unnested_call}
use Rattle.ap_world.proofs.Adding.{each_append}
use Rattle.ap_world.proofs.Lists.{each_zip, map_each, joined_each}
use Rattle.ap_world.proofs.Repeats.{to_distinct}

-- E is D with the function f of the name F
pub record Adds (D E : Defs) (F : Symbol) (f : Function) : Type 0 where
  pub extends : Extends D E
  pub only : (x : Symbol) → symbol_eq x F ≡ false → E x ≡ D x
  pub here : E F ≡ Some f
  pub no_prim : prim_of F ≡ None

pub adds_last : (W : List Entry) (f : Function) → has_name W f.name ≡ false → Adds (function_of W) (function_of (W ++ entry.Function f ∷ [])) f.name f
adds_last W f free = record { extends = extends-append W (entry.Function f ∷ []); only = function_of-other W f; here = function_of-here W f free; no_prim = (not_taken W f.name free).0 }

-- the arguments are known, and as many as the formals
abbrev pub CallKnown : Defs → ℕ → List Term → Type 0
CallKnown D n c = Each (λ u. known D u ≡ true) c × (n ≡ length c)

-- so are a case's tests, and its calls
abbrev pub CaseKnown : Defs → ℕ → Case → Type 0
CaseKnown D n k = Each (λ u. known D u ≡ true) k.tests × Each (CallKnown D n) k.calls

pub empty_parts : (xs ys : List (List Term)) → is_empty (xs ++ ys) ≡ true → (is_empty xs ≡ true) × (is_empty ys ≡ true)
empty_parts [] ys h = (refl, h)
empty_parts (x ∷ xs) ys h = cc

head_back : (D E : Defs) (g : Symbol) → E g ≡ D g → (o : Option Prim) (n : ℕ) → is_head E g o n ≡ true → is_head D g o n ≡ true
head_back D E g same (Some p) n h = h
head_back D E g same None n h = subst (λ o. takes o n ≡ true) same h

module _ (D E : Defs) (F : Symbol) (f : Function) (adds : Adds D E F f) where
  -- a term without calls of F is known without it
  pub clear : (u : Term) → has_no_call F u ≡ true → known E u ≡ true → known D u ≡ true
  clear = term_ind (λ u. has_no_call F u ≡ true → known E u ≡ true → known D u ≡ true)
      (λ x n k. known_var D x)
      (λ q n k. known_quote D q)
      (λ g ts es n k.
      let p = empty_parts (own_call F g ts) (joined (map (calls_in F) ts)) (subst (λ cs. is_empty cs ≡ true) (calls_call F g ts) n) in
      known_by D g ts (other g ts (symbol_eq g F) refl p.0 (known_head E g ts k)) (true_each (known D) ts (all ts es p.1 (each_true (known E) ts (known_args E g ts k)))))
    where
      other : (g : Symbol) (ts : List Term) (b : Bool) → symbol_eq g F ≡ b → is_empty (cond b (ts ∷ []) []) ≡ true → is_head E g (prim_of g) (length ts) ≡ true → is_head D g (prim_of g) (length ts) ≡ true
      other g ts true is h k = cc
      other g ts false is h k = head_back D E g (adds.only g is) (prim_of g) (length ts) k

      all : (ts : List Term) → Each (λ u. has_no_call F u ≡ true → known E u ≡ true → known D u ≡ true) ts → is_empty (joined (map (calls_in F) ts)) ≡ true → Each (λ u. known E u ≡ true) ts → Each (λ u. known D u ≡ true) ts
      all [] es n k = tt
      all (t ∷ ts) es n k = let p = empty_parts (calls_in F t) (joined (map (calls_in F) ts)) n in (es.0 p.0 k.0, all ts es.1 p.1 k.1)

  calls_are : (u : Term) → known E u ≡ true → Each (λ c. known E (Call F c) ≡ true) (calls_in F u)
  calls_are = term_ind (λ u. known E u ≡ true → Each (λ c. known E (Call F c) ≡ true) (calls_in F u))
      (λ x k. subst (Each (λ c. known E (Call F c) ≡ true)) (sym (calls_var F x)) tt)
      (λ q k. subst (Each (λ c. known E (Call F c) ≡ true)) (sym (calls_quote F q)) tt)
      (λ g ts es k. subst (Each (λ c. known E (Call F c) ≡ true)) (sym (calls_call F g ts))
      (each_append (λ c. known E (Call F c) ≡ true) (own_call F g ts) (joined (map (calls_in F) ts)) (own g ts (symbol_eq g F) refl k)
      (joined_each (λ c. known E (Call F c) ≡ true) (calls_in F) ts (all ts es (each_true (known E) ts (known_args E g ts k))))))
    where
      own : (g : Symbol) (ts : List Term) (b : Bool) → symbol_eq g F ≡ b → known E (Call g ts) ≡ true → Each (λ c. known E (Call F c) ≡ true) (cond b (ts ∷ []) [])
      own g ts true is k = (subst (λ x. known E (Call x ts) ≡ true) (symbol_eq-true g F is) k, tt)
      own g ts false is k = tt

      all : (ts : List Term) → Each (λ u. known E u ≡ true → Each (λ c. known E (Call F c) ≡ true) (calls_in F u)) ts → Each (λ u. known E u ≡ true) ts → Each (λ u. Each (λ c. known E (Call F c) ≡ true) (calls_in F u)) ts
      all [] es k = tt
      all (t ∷ ts) es k = (es.0 k.0, all ts es.1 k.1)

  -- where no call is nested, the calls' arguments are known without F, and as many as the formals
  pub calls_known : (u : Term) → known E u ≡ true → has_flat_calls F (calls_in F u) ≡ true → Each (CallKnown D (length f.formals)) (calls_in F u)
  calls_known u k h = each_zip (λ c. all_true (map (has_no_call F) c) ≡ true) (λ c. known E (Call F c) ≡ true) (CallKnown D (length f.formals)) (calls_in F u) one
      (each_true (λ c. all_true (map (has_no_call F) c)) (calls_in F u) h) (calls_are u k)
    where
      one : (c : List Term) → all_true (map (has_no_call F) c) ≡ true → known E (Call F c) ≡ true → CallKnown D (length f.formals) c
      one c n k =
          let a : takes (E F) (length c) ≡ true = subst (λ o. is_head E F o (length c) ≡ true) adds.no_prim (known_head E F c k) in (
            each_zip (λ u. has_no_call F u ≡ true) (λ u. known E u ≡ true) (λ u. known D u ≡ true) c clear (each_true (has_no_call F) c n) (each_true (known E) c (known_args E F c k)),
            eqb-true (length f.formals) (length c) (subst (λ o. takes o (length c) ≡ true) adds.here a),
          )

  -- so are the cases of a body whose recursion isn't nested
  module _ (nots : (u : Term) → known D u ≡ true → known D (not_of u) ≡ true) where
    abbrev Knows : List Case → Type 0
    Knows = Each (CaseKnown D (length f.formals))

    alone : (u : Term) → known E u ≡ true → has_flat_calls F (calls_in F u) ≡ true → Knows (one_case F u)
    alone u k h = ((tt, to_distinct (CallKnown D (length f.formals)) [] (calls_in F u) (calls_known u k h)), tt)

    tested : (a : Term) → known D a ≡ true → (ks : List Case) → Knows ks → Knows (map (with_test a) ks)
    tested a k ks h = map_each (CaseKnown D (length f.formals)) (with_test a) ks (each_same ks (λ c q. ((k, q.0), q.1)) h)

    pub cases_known : (u : Term) → known E u ≡ true → is_unnested F u ≡ true → Knows (cases_of F u)
    cases_known = term_ind Below
        (λ x k n. subst Knows (sym (cases_var F x)) (alone (Var x) k (ap (has_flat_calls F) (calls_var F x))))
        (λ q k n. subst Knows (sym (cases_quote F q)) (alone (Quote q) k (ap (has_flat_calls F) (calls_quote F q))))
        (λ g ts es k n. subst Knows (sym (cases_call F g ts)) (go g ts es k (symbol_eq g if_name) (sym (unnested_call F g ts) ∙ n)))
      where
        Below : Term → Type 0
        Below u = known E u ≡ true → is_unnested F u ≡ true → Knows (cases_of F u)

        three : (g : Symbol) (a b c : Term) → Below b → Below c → known E (Call g (a ∷ b ∷ c ∷ [])) ≡ true → (t : Bool)
            → cond t (has_flat_calls F (calls_in F (Call g (a ∷ b ∷ c ∷ [])))) (clear_test F a (is_unnested F b) (is_unnested F c)) ≡ true
            → Knows (cond t (one_case F (Call g (a ∷ b ∷ c ∷ []))) (two_cases a (cases_of F b) (cases_of F c)))
        three g a b c below_b below_c k true n = alone (Call g (a ∷ b ∷ c ∷ [])) k n
        three g a b c below_b below_c k false n =
            let p = both (has_no_call F a) (is_unnested F b && is_unnested F c) n in
            let q = both (is_unnested F b) (is_unnested F c) p.1 in
            let ks = each_true (known E) (a ∷ b ∷ c ∷ []) (known_args E g (a ∷ b ∷ c ∷ []) k) in
            let known_a = clear a p.0 ks.0 in
            each_append (CaseKnown D (length f.formals)) (map (with_test a) (cases_of F b)) (map (with_test (not_of a)) (cases_of F c))
            (tested a known_a (cases_of F b) (below_b ks.1.0 q.0)) (tested (not_of a) (nots a known_a) (cases_of F c) (below_c ks.1.1.0 q.1))

        go : (g : Symbol) (ts : List Term) → Each Below ts → known E (Call g ts) ≡ true → (b : Bool)
            → at_branches F (clear_test F) (has_flat_calls F (calls_in F (Call g ts))) (if_parts b (map (λ u. (u, is_unnested F u)) ts)) ≡ true
            → Knows (at_branches F two_cases (one_case F (Call g ts)) (if_parts b (map (λ u. (u, cases_of F u)) ts)))
        go g ts es k false n = alone (Call g ts) k n
        go g (a ∷ b ∷ c ∷ []) es k true n = three g a b c es.1.0 es.1.1.0 k (has_no_call F b && has_no_call F c) n
        go g ts es k true n = alone (Call g ts) k n
