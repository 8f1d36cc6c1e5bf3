-- How many clauses an induction has.
use Rattle.std.proofs.Common.{◌≡◌, ℕ, suc, ◌+◌, ◌*◌, ◌^◌, List, [], ◌∷◌, ◌++◌, map, length, length-append, refl, ap, sym, ◌∙◌, arith}
use Rattle.std.proofs.Math.ListN.{length-map}
use Rattle.std.proofs.Math.Nat.{pow-zero, pow-suc}
use Rattle.ap_list.specs.Lists.{Each, joined, sum_of}
use Rattle.ap_value.specs.declared.symbol.Symbol.{Symbol}
use Rattle.ap_term.specs.declared.term.Term.{Term}
use Rattle.ap_term.specs.Terms.{subst_of}
use Rattle.ap_world.specs.declared.entry.Case.{Case}
use Rattle.ap_world.specs.Clauses.{negate}
use Rattle.ap_kernel.specs.Induction.{Moving, choices, negated_at, with_choice, case_clauses, induction}
use Rattle.ap_induct.specs.Choosing.{clause_count}

-- each of some before each of others
pairs_count : {A : Type 0} (xs : List A) (yss : List (List A)) → length (joined (map (λ x. map (λ ys. x ∷ ys) yss) xs)) ≡ length xs * length yss
pairs_count [] yss = omega arith
pairs_count (x ∷ xs) yss =
    let a = length-append (map (λ ys. x ∷ ys) yss) (joined (map (λ x. map (λ ys. x ∷ ys) yss) xs)) in
    let b = length-map yss (λ ys. x ∷ ys) in
    let d = pairs_count xs yss in
    omega arith

choices_count : {A : Type 0} (n : ℕ) (xss : List (List A)) → Each (λ xs. length xs ≡ n) xss → length (choices xss) ≡ n ^ length xss
choices_count n [] h = sym (pow-zero n)
choices_count n (xs ∷ xss) h =
    let a = pairs_count xs (choices xss) in
    let b : length (choices xss) ≡ n ^ length xss = choices_count n xss h.1 in
    a ∙ ap (λ k. k * length (choices xss)) h.0 ∙ ap (λ k. n * k) b ∙ (turned n (n ^ length xss) ∙ sym (pow-suc n (length xss)))
  where
    turned : (a b : ℕ) → a * b ≡ b * a
    turned a b = omega arith

module _ (c : List Term) (s : List (Symbol × Term)) (moved : Moving) where
  negated_count : (calls : List (List Term)) → Each (λ ls. length ls ≡ length c) (map (negated_at c s moved) calls)
  negated_count [] = tt
  negated_count (call ∷ calls) = (length-map c (λ l. negate (subst_of (moved call) l)), negated_count calls)

  case_count : (k : Case) → length (case_clauses c s moved k) ≡ length c ^ length k.calls
  case_count k =
      length-map (choices (map (negated_at c s moved) k.calls)) (with_choice c s moved k)
      ∙ choices_count (length c) (map (negated_at c s moved) k.calls) (negated_count k.calls)
      ∙ ap (λ n. length c ^ n) (length-map k.calls (negated_at c s moved))

  -- for each case a choice of a literal for each of its calls
  pub induction_count : (ks : List Case) → length (induction c s moved ks) ≡ clause_count (length c) ks
  induction_count [] = refl
  induction_count (k ∷ ks) =
      let a = length-append (case_clauses c s moved k) (induction c s moved ks) in
      let b = case_count k in
      let d = induction_count ks in
      omega arith
