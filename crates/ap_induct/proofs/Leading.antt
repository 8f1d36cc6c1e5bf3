-- The call that is chosen is a candidate, and a term of the world.
use Rattle.std.proofs.Common.{◌≡◌, ℕ, nat_le, Bool, true, false, cond, ◌&&◌, List, [], ◌∷◌, ◌++◌, map, zip, length, Option, Some, None, refl, ap, sym, ◌∙◌, subst, append_assoc, append-nil}
use Rattle.std.specs.Option.{option_map, ForSome}
use Rattle.ap_list.specs.Lists.{Each, joined}
use Rattle.ap_value.specs.declared.symbol.Symbol.{Symbol}
use Rattle.ap_value.specs.declared.value.Value.{Value}
use Rattle.ap_term.specs.declared.term.Term.{Term, out-Term, Var, Quote, Call}
use Rattle.ap_term.specs.declared.term.Term.TheOpen.{Term-F}
use Rattle.ap_term.specs.declared.term.Term.TheVariants.{outs-Call}
use Rattle.ap_term.specs.declared.term.Clause.{Clause}
use Rattle.ap_term.proofs.Induction.{term_ind, para_var, para_quote, para_call}
use Rattle.ap_world.specs.declared.entry.Measure.{Measure}
use Rattle.ap_world.specs.declared.entry.Function.{Function}
use Rattle.ap_world.specs.declared.theory.RuneKind.TheVariants.{Induction}
use Rattle.ap_world.specs.Theories.{ShownTheory, rune_of, is_enabled}
use Rattle.ap_world.specs.Meaning.{Defs}
use Rattle.ap_world.specs.Sound.{known}
use Rattle.ap_world.proofs.Knowing.{known_args, each_true}
use Rattle.ap_world.proofs.Written.{first_parts, second_parts}
use Rattle.ap_kernel.specs.Reductions.{KnownClause}
use Rattle.ap_kernel.specs.Induction.{led_names, is_candidate, measured_leads, leads_induction}
use Rattle.ap_kernel.proofs.Reduced.{each_append}
use Rattle.ap_induct.specs.Choosing.{calls_step, calls_of, calls_among, clause_count, replaced_by, function_replaces, replaces, with_names, candidates, score, better, best, looked_at, chosen}

pub calls_call : (f : Symbol) (ts : List Term) → calls_of (Call f ts) ≡ Call f ts ∷ calls_among ts
calls_call f ts = para_call calls_step f ts
    ∙ ap (λ us. Call f us ∷ joined (map (λ (p : Term × List Term). p.1) (map (λ u. (u, calls_of u)) ts))) (first_parts calls_of ts)
    ∙ ap (λ zs. Call f ts ∷ joined zs) (second_parts calls_of ts)

-- a call is put before those of its arguments; a variable and a constant have none
pub calls_pushed : (f : Symbol) (ts lent : List Term) (t copy : Term) (out pushed : List Term) → t ≡ Call f ts → lent ≡ ts → copy ≡ t → pushed ≡ out ++ copy ∷ [] → pushed ++ calls_among lent ≡ out ++ calls_of t
calls_pushed f ts lent t copy out pushed is same as_is p =
    ap (λ zs. zs ++ calls_among lent) p
    ∙ append_assoc out (copy ∷ []) (calls_among lent)
    ∙ ap (λ z. out ++ (z ∷ calls_among lent)) (as_is ∙ is)
    ∙ ap (λ us. out ++ (Call f ts ∷ calls_among us)) same
    ∙ ap (λ zs. out ++ zs) (sym (calls_call f ts))
    ∙ ap (λ u. out ++ calls_of u) (sym is)

pub no_calls_var : (t : Term) (x : Symbol) (out : List Term) → t ≡ Var x → out ≡ out ++ calls_of t
no_calls_var t x out is = sym (ap (λ u. out ++ calls_of u) is ∙ ap (λ zs. out ++ zs) (para_var calls_step x) ∙ append-nil out)

pub no_calls_quote : (t : Term) (v : Value) (out : List Term) → t ≡ Quote v → out ≡ out ++ calls_of t
no_calls_quote t v out is = sym (ap (λ u. out ++ calls_of u) is ∙ ap (λ zs. out ++ zs) (para_quote calls_step v) ∙ append-nil out)

-- the calls in known literals are known
calls_known : (D : Defs) (u : Term) → known D u ≡ true → Each (λ z. known D z ≡ true) (calls_of u)
calls_known D = term_ind Goal
    (λ x k. subst Known (sym (para_var calls_step x)) tt)
    (λ q k. subst Known (sym (para_quote calls_step q)) tt)
    (λ f ts es k. subst Known (sym (calls_call f ts)) (k, args ts es (each_true (known D) ts (known_args D f ts k))))
  where
    Known : List Term → Type 0
    Known zs = Each (λ z. known D z ≡ true) zs

    Goal : Term → Type 0
    Goal u = known D u ≡ true → Each (λ z. known D z ≡ true) (calls_of u)

    args : (ts : List Term) → Each Goal ts → Each (λ u. known D u ≡ true) ts → Each (λ z. known D z ≡ true) (calls_among ts)
    args [] es ks = tt
    args (t ∷ ts) es ks = each_append (λ z. known D z ≡ true) (calls_of t) (calls_among ts) (es.0 ks.0) (args ts es.1 ks.1)

pub among_known : (D : Defs) (ts : List Term) → Each (λ u. known D u ≡ true) ts → Each (λ z. known D z ≡ true) (calls_among ts)
among_known D [] ks = tt
among_known D (t ∷ ts) ks = each_append (λ z. known D z ≡ true) (calls_of t) (calls_among ts) (calls_known D t ks.0) (among_known D ts ks.1)

looked_known : (D : Defs) (ts : List Term) (o : Option Term) → Each (λ u. known D u ≡ true) ts → ForSome o (λ u. known D u ≡ true) → Each (λ u. known D u ≡ true) (looked_at ts o)
looked_known D ts None ks h = among_known D ts ks
looked_known D ts (Some u) ks h = (h u refl, tt)

-- what holds of each candidate holds of the best
best_holds : (P : Term × List Symbol → Type 0) (qs ps : List (Term × List Symbol)) (p : Term × List Symbol) → Each P ps → best qs ps ≡ Some p → P p
best_holds P qs [] p hs h = cc
best_holds P qs (q ∷ rest) p hs h = go (best qs rest) refl (λ r e. best_holds P qs rest r hs.1 e) h
  where
    pick : (r : Term × List Symbol) (b : Bool) → P r → cond b (Some q) (Some r) ≡ Some p → P p
    pick r true k e = let same : q ≡ p = cc in subst P same hs.0
    pick r false k e = let same : r ≡ p = cc in subst P same k

    go : (o : Option (Term × List Symbol)) → best qs rest ≡ o → ((r : Term × List Symbol) → best qs rest ≡ Some r → P r) → better qs q o ≡ Some p → P p
    go None e later l = let same : q ≡ p = cc in subst P same hs.0
    go (Some r) e later l = pick r (nat_le (score qs r.1) (score qs q.1)) (later r e) l

-- the induction of so many literals by the function has at most 1,024 clauses
abbrev pub has_few : Option Function → ℕ → Bool
has_few None n = false
has_few (Some g) n = nat_le (clause_count n g.cases) 1024

module _ (D : Defs) (h : ShownTheory) (n : ℕ) where
  abbrev Leads : Term × List Symbol → Type 0
  Leads p = (replaces D h n (out-Term p.0) ≡ Some p.1) × (known D p.0 ≡ true)

  candidates_lead : (us : List Term) → Each (λ u. known D u ≡ true) us → Each Leads (candidates D h n us)
  candidates_lead [] ks = tt
  candidates_lead (u ∷ us) ks = each_append Leads (with_names D h n u (replaces D h n (out-Term u))) (candidates D h n us) (one (replaces D h n (out-Term u)) refl) (candidates_lead us ks.1)
    where
      one : (o : Option (List Symbol)) → replaces D h n (out-Term u) ≡ o → Each Leads (with_names D h n u o)
      one None e = tt
      one (Some xs) e = ((e, ks.0), tt)

  -- a candidate has what the kernel asks of it, and its induction isn't too long
  candidate_leads : (f : Symbol) (ts : List Term) (xs : List Symbol) → replaces D h n (Term-F.Call f ts) ≡ Some xs → (leads_induction (D f) ts ≡ true) × (has_few (D f) n ≡ true)
  candidate_leads f ts xs e = enabled (is_enabled h (rune_of Induction f)) e
    where
      pass : (b c : Bool) (ys : List Symbol) → cond (b && c) (Some ys) None ≡ Some xs → (b ≡ true) × (c ≡ true)
      pass true true ys l = (refl, refl)
      pass true false ys l = cc
      pass false c ys l = cc

      measured : (g : Function) (o : Option Measure) → replaced_by g o n ts ≡ Some xs → (measured_leads g o ts ≡ true) × (has_few (Some g) n ≡ true)
      measured g None l = cc
      measured g (Some m) l = pass (is_candidate g.formals m.0 g.cases ts) (nat_le (clause_count n g.cases) 1024) (led_names g.formals m.0 g.cases (zip g.formals ts)) l

      there : (o : Option Function) → function_replaces o n ts ≡ Some xs → (leads_induction o ts ≡ true) × (has_few o n ≡ true)
      there None l = cc
      there (Some g) l = measured g g.measure l

      enabled : (b : Bool) → cond b (function_replaces (D f) n ts) None ≡ Some xs → (leads_induction (D f) ts ≡ true) × (has_few (D f) n ≡ true)
      enabled true l = there (D f) l
      enabled false l = cc

pub record IsChosen (D : Defs) (n : ℕ) (f : Symbol) (us : List Term) : Type 0 where
  pub call : known D (Call f us) ≡ true
  pub leads : leads_induction (D f) us ≡ true
  pub few : has_few (D f) n ≡ true

pub chosen_leads : (D : Defs) (h : ShownTheory) (ts : List Term) (o : Option Term) (f : Symbol) (us : List Term) → Each (λ u. known D u ≡ true) ts → ForSome o (λ u. known D u ≡ true)
    → chosen D h ts o ≡ Some (Call f us) → IsChosen D (length ts) f us
chosen_leads D h ts o f us ks hint e = go (best all all) refl e
  where
    all : List (Term × List Symbol)
    all = candidates D h (length ts) (looked_at ts o)

    go : (b : Option (Term × List Symbol)) → best all all ≡ b → option_map (λ (q : Term × List Symbol). q.0) b ≡ Some (Call f us) → IsChosen D (length ts) f us
    go None q l = cc
    go (Some p) q l =
        let same : p.0 ≡ Call f us = cc in
        let (there, k) = best_holds (Leads D h (length ts)) all all p (candidates_lead D h (length ts) (looked_at ts o) (looked_known D ts o ks hint)) q in
        let (leads, few) = candidate_leads D h (length ts) f us p.1 (ap (replaces D h (length ts)) (sym (outs-Call f us)) ∙ ap (λ z. replaces D h (length ts) (out-Term z)) (sym same) ∙ there) in
        record {
          call = subst (λ z. known D z ≡ true) same k;
          leads = leads;
          few = few;
        }

-- so the kernel may be asked for the induction by it
pub chosen_asks : (D : Defs) (h : ShownTheory) (c : Clause) (o : Option Term) (f : Symbol) (us lent literals : List Term) (found : Option Term) (call : Term) → literals ≡ c.0 → found ≡ chosen D h literals o
    → found ≡ Some call → call ≡ Call f us → lent ≡ us → KnownClause D c → ForSome o (λ u. known D u ≡ true) → IsChosen D (length c.0) f lent
chosen_asks D h c o f us lent literals found call same is some at args k hint =
    subst (IsChosen D (length c.0) f) (sym args) (chosen_leads D h c.0 o f us k hint (ap (λ ts. chosen D h ts o) (sym same) ∙ sym is ∙ some ∙ (λ i. Some (at i))))
