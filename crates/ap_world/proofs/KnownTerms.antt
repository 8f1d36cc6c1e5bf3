-- Instances, conjuncts, negations and what recursion owes are known where their parts are.
use Rattle.std.proofs.Common.{◌≡◌, ℕ, Bool, true, false, cond, List, [], ◌∷◌, ◌++◌, map, zip, Some, unwrap_or, sym, subst}
use Rattle.std.proofs.Math.ListN.{length-map}
use Rattle.ap_list.specs.Lists.{Each, all_true, joined, lookup_by}
use Rattle.ap_value.specs.declared.symbol.Symbol.{Symbol}
use Rattle.ap_value.specs.Values.{symbol_eq}
use Rattle.ap_term.specs.declared.term.Term.{Term, Var, Quote, Call}
use Rattle.ap_term.specs.Terms.{subst_of}
use Rattle.ap_term.proofs.Induction.{term_ind}
use Rattle.ap_world.specs.declared.entry.Case.{Case}
use Rattle.ap_world.specs.Names.{if_name, not_name, equal_name, less_name}
use Rattle.ap_world.specs.Primitives.{prim_of}
use Rattle.ap_world.specs.Meaning.{Defs}
use Rattle.ap_world.specs.Clauses.{not_of, negated_part, negate, is_nil, if_parts, and_parts, conjuncts}
use Rattle.ap_world.specs.Recursion.{t_constant, nil_constant, less, natp_of, negated_tests, decrease, case_obligations, natural_obligations, falling_obligations}
use Rattle.ap_world.specs.Sound.{is_head, known, HasFunctions}
use Rattle.ap_world.proofs.Knowing.{known_var, known_quote, known_head, known_args, known_by, each_true, true_each, each_same}
use Rattle.ap_world.proofs.Equations.{knowing}
use Rattle.ap_world.proofs.Written.{subst_var, subst_quote, subst_call, negate_var, negate_quote, negate_call, conjuncts_var, conjuncts_quote, conjuncts_call}
use Rattle.ap_world.proofs.Adding.{each_append}
use Rattle.ap_world.proofs.Lists.{map_each, joined_each}
use Rattle.ap_world.proofs.Natural.{natp_is_known}
use Rattle.ap_world.proofs.Cases.{CaseKnown}
use Rattle.ap_world.proofs.Grounded.{has_natp}

module _ (D : Defs) where
  abbrev Known : Term → Type 0
  Known u = known D u ≡ true

  -- an instance by known terms
  pub known_subst : (s : List (Symbol × Term)) → Each (λ p. Known p.1) s → (u : Term) → Known u → Known (subst_of s u)
  known_subst s ks = term_ind (λ u. Known u → Known (subst_of s u))
      (λ x k. subst Known (sym (subst_var s x)) (found s ks x))
      (λ q k. subst Known (sym (subst_quote s q)) (known_quote D q))
      (λ f ts es k. subst Known (sym (subst_call s f ts))
      (known_by D f (map (subst_of s) ts) (subst (λ n. is_head D f (prim_of f) n ≡ true) (sym (length-map ts (subst_of s))) (known_head D f ts k))
      (true_each (known D) (map (subst_of s) ts) (args ts es (each_true (known D) ts (known_args D f ts k))))))
    where
      found : (s : List (Symbol × Term)) → Each (λ p. Known p.1) s → (x : Symbol) → Known (unwrap_or (lookup_by symbol_eq s x) (Var x))
      found [] ks x = known_var D x
      found (p ∷ ps) ks x = go (symbol_eq x p.0) (found ps ks.1 x)
        where
          go : (b : Bool) → Known (unwrap_or (lookup_by symbol_eq ps x) (Var x)) → Known (unwrap_or (cond b (Some p.1) (lookup_by symbol_eq ps x)) (Var x))
          go true h = ks.0
          go false h = h

      args : (ts : List Term) → Each (λ u. Known u → Known (subst_of s u)) ts → Each Known ts → Each Known (map (subst_of s) ts)
      args [] es ks = tt
      args (t ∷ ts) es ks = (es.0 ks.0, args ts es.1 ks.1)

  pub zip_known : (fs : List Symbol) (ts : List Term) → Each Known ts → Each (λ p. Known p.1) (zip fs ts)
  zip_known [] ts ks = tt
  zip_known (f ∷ fs) [] ks = tt
  zip_known (f ∷ fs) (t ∷ ts) ks = (ks.0, zip_known fs ts ks.1)

  pub known_conjuncts : (u : Term) → Known u → Each Known (conjuncts u)
  known_conjuncts = term_ind Below
      (λ x k. subst (Each Known) (sym (conjuncts_var x)) (k, tt))
      (λ q k. subst (Each Known) (sym (conjuncts_quote q)) (k, tt))
      (λ f ts es k. subst (Each Known) (sym (conjuncts_call f ts)) (go f ts es k (symbol_eq f if_name)))
    where
      Below : Term → Type 0
      Below u = Known u → Each Known (conjuncts u)

      three : (f : Symbol) (a b c : Term) → Below a → Below b → Known (Call f (a ∷ b ∷ c ∷ [])) → (t : Bool) → Each Known (cond t (conjuncts a ++ conjuncts b) (Call f (a ∷ b ∷ c ∷ []) ∷ []))
      three f a b c below_a below_b k true =
          let ks = each_true (known D) (a ∷ b ∷ c ∷ []) (known_args D f (a ∷ b ∷ c ∷ []) k) in
          each_append Known (conjuncts a) (conjuncts b) (below_a ks.0) (below_b ks.1.0)
      three f a b c below_a below_b k false = (k, tt)

      go : (f : Symbol) (ts : List Term) → Each Below ts → Known (Call f ts) → (b : Bool) → Each Known (and_parts (if_parts b (map (λ u. (u, conjuncts u)) ts)) (Call f ts ∷ []))
      go f ts es k false = (k, tt)
      go f (a ∷ b ∷ c ∷ []) es k true = three f a b c es.0 es.1.0 k (is_nil c)
      go f ts es k true = (k, tt)

  pub known_less : (xs ys : List Term) → Each Known xs → Each Known ys → Known (less xs ys)
  known_less (a ∷ []) (b ∷ []) h k = simp (h.0, k.0, knowing)
  known_less (a ∷ xs) (b ∷ ys) h k = more a b (less xs ys) h.0 k.0 (known_less xs ys h.1 k.1)
    where
      more : (a b r : Term) → Known a → Known b → Known r
          → Known (Call if_name (Call less_name (a ∷ b ∷ []) ∷ t_constant ∷ Call if_name (Call equal_name (a ∷ b ∷ []) ∷ r ∷ nil_constant ∷ []) ∷ []))
      more a b r ka kb kr = simp (ka, kb, kr, knowing)
  known_less xs ys h k = known_quote D _

  module _ (not_known : (u : Term) → Known u → Known (not_of u)) where
    pub known_negate : (u : Term) → Known u → Known (negate u)
    known_negate = term_ind (λ u. Known u → Known (negate u))
        (λ x k. subst Known (sym (negate_var x)) (not_known (Var x) k))
        (λ q k. subst Known (sym (negate_quote q)) (not_known (Quote q) k))
        (λ f ts es k. subst Known (sym (negate_call f ts)) (call f ts (symbol_eq f not_name) k))
      where
        call : (f : Symbol) (ts : List Term) (b : Bool) → Known (Call f ts) → Known (negated_part b ts (Call f ts))
        call f ts false k = not_known (Call f ts) k
        call f (a ∷ []) true k = (each_true (known D) (a ∷ []) (known_args D f (a ∷ []) k)).0
        call f ts true k = not_known (Call f ts) k

    pub known_tests : (ts : List Term) → Each Known ts → Each Known (negated_tests ts)
    known_tests ts ks = map_each Known negate (joined (map conjuncts ts)) (each_same (joined (map conjuncts ts)) known_negate (joined_each Known conjuncts ts (each_same ts known_conjuncts ks)))

    pub decrease_known : (formals : List Symbol) (m : List Term) (k : Case) (c : List Term) → Each Known m → Each Known k.tests → Each Known c → Each Known (decrease formals m k c)
    decrease_known formals m k c ms ts cs =
        each_append Known (negated_tests k.tests) (less (map (subst_of (zip formals c)) m) m ∷ []) (known_tests k.tests ts)
        (known_less (map (subst_of (zip formals c)) m) m (map_each Known (subst_of (zip formals c)) m (each_same m (known_subst (zip formals c) (zip_known formals c cs)) ms)) ms, tt)

    abbrev AllKnown : List Term → Type 0
    AllKnown c = all_true (map (known D) c) ≡ true

    pub falling_known : (n : ℕ) (formals : List Symbol) (m : List Term) (ks : List Case) → Each Known m → Each (CaseKnown D n) ks → Each AllKnown (falling_obligations formals m ks)
    falling_known n formals m ks ms hs = joined_each AllKnown (case_obligations formals m) ks
        (each_same ks (λ k h. map_each AllKnown (decrease formals m k) k.calls (each_same k.calls (λ c g. true_each (known D) (decrease formals m k c) (decrease_known formals m k c ms h.0 g.0)) h.1)) hs)

pub natural_known : (D : Defs) → HasFunctions D → (m : List Term) → Each (λ u. known D u ≡ true) m → Each (λ c. all_true (map (known D) c) ≡ true) (natural_obligations m)
natural_known D functions [] ks = tt
natural_known D functions (u ∷ us) ks =
    (true_each (known D) (natp_of u ∷ []) (natp_is_known D (has_natp D functions) u ks.0, tt), natural_known D functions us ks.1)
