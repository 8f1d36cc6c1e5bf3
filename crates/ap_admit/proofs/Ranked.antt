-- Valid obligations make the larger world total.
use Rattle.std.proofs.Common.{◌≡◌, ℕ, true, List, [], ◌∷◌, map, zip, length, refl, sym, subst}
use Rattle.std.proofs.Math.ListN.{length-map}
use Rattle.ap_list.specs.Lists.{Each}
use Rattle.ap_value.specs.declared.symbol.Symbol.{Symbol}
use Rattle.ap_value.specs.Values.{V, int}
use Rattle.ap_term.specs.declared.term.Term.{Term}
use Rattle.ap_term.specs.Terms.{subst_of}
use Rattle.ap_world.specs.declared.entry.Case.{Case}
use Rattle.ap_world.specs.declared.entry.Function.{Function}
use Rattle.ap_world.specs.Clauses.{not_of}
use Rattle.ap_world.specs.Meaning.{Env, Defs, Total, Valid}
use Rattle.ap_world.specs.Recursion.{cases_of, is_unnested, less, decrease, case_obligations, falling_obligations}
use Rattle.ap_world.specs.Sound.{known, speaks_of}
use Rattle.ap_world.proofs.Knowing.{each_same}
use Rattle.ap_world.proofs.TotalMeaning.{Apply, Models, AllTrue, val, values_of, valid_is}
use Rattle.ap_world.proofs.Coinciding.{val_instance}
use Rattle.std.proofs.Common.{pos}
use Rattle.ap_world.proofs.Lists.{each_map, each_joined}
use Rattle.ap_world.proofs.Lex.{LexLess}
use Rattle.ap_world.proofs.Negations.{HasNot, past_tests}
use Rattle.ap_world.proofs.Falling.{nat_of, IsNat, less_is}
use Rattle.ap_world.proofs.Cases.{Adds}
use Rattle.ap_admit.proofs.Totals.{Falls, total_more}

module _ (D E : Defs) (F : Symbol) (f : Function) (adds : Adds D E F f) (A : Apply) (models : Models D A) (has : HasNot A) (nots : (u : Term) → known D u ≡ true → known D (not_of u) ≡ true)
    (m : List Term) (speaks : Each (λ u. speaks_of f.formals u ≡ true) m) (natural : (e : Env) → Each (IsNat A e) m) where
  -- the measure's values
  abbrev rank : List V → List ℕ
  rank vs = map (λ u. nat_of (val A u (zip f.formals vs))) m

  module _ (vs : List V) (c : List Term) (len_c : length f.formals ≡ length c) where
    instance_rank : (us : List Term) → Each (λ u. speaks_of f.formals u ≡ true) us
        → map (λ u. nat_of (val A u (zip f.formals vs))) (map (subst_of (zip f.formals c)) us) ≡ map (λ u. nat_of (val A u (zip f.formals (values_of A c (zip f.formals vs))))) us
    instance_rank [] sp = refl
    instance_rank (u ∷ us) sp =
        let p = val_instance A f.formals c u (zip f.formals vs) len_c sp.0 in
        let q = instance_rank us sp.1 in
        λ i. nat_of (p i) ∷ q i

    instance_nat : (us : List Term) → Each (λ u. speaks_of f.formals u ≡ true) us → Each (IsNat A (zip f.formals (values_of A c (zip f.formals vs)))) us
        → Each (IsNat A (zip f.formals vs)) (map (subst_of (zip f.formals c)) us)
    instance_nat [] sp h = tt
    instance_nat (u ∷ us) sp h = (subst (λ v. v ≡ int (pos (nat_of v))) (sym (val_instance A f.formals c u (zip f.formals vs) len_c sp.0)) h.0, instance_nat us sp.1 h.1)

    falls_call : (k : Case) → AllTrue A (zip f.formals vs) k.tests → Valid D (decrease f.formals m k c) → LexLess (rank (values_of A c (zip f.formals vs))) (rank vs)
    falls_call k tests valid =
        let l = past_tests A has (zip f.formals vs) k.tests (less (map (subst_of (zip f.formals c)) m) m) tests (valid_is D A models (decrease f.formals m k c) valid (zip f.formals vs)) in
        subst (λ ns. LexLess ns (rank vs)) (instance_rank m speaks)
        (less_is A (zip f.formals vs) (map (subst_of (zip f.formals c)) m) m (instance_nat m speaks (natural (zip f.formals (values_of A c (zip f.formals vs))))) (natural (zip f.formals vs)) l)

  falls_case : (k : Case) → Each (Valid D) (case_obligations f.formals m k) → Falls A f rank k
  falls_case k valid vs len tests = each_same k.calls (λ c v len_c. falls_call vs c len_c k tests v) (each_map (Valid D) (decrease f.formals m k) k.calls valid)

  pub total_admit : known E f.body ≡ true → is_unnested F f.body ≡ true → Each (Valid D) (falling_obligations f.formals m (cases_of F f.body)) → Total E
  total_admit body flat valid = total_more D E F f adds A models has nots body flat (length m) rank (λ vs. length-map m (λ u. nat_of (val A u (zip f.formals vs))))
      (each_same (cases_of F f.body) falls_case (each_joined (Valid D) (case_obligations f.formals m) (cases_of F f.body) valid))
