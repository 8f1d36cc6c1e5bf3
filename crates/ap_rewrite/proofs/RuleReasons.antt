-- The polynomials of a linear rule's instance have a reason: the theorem that the rule is told by.
use Rattle.std.proofs.Common.{◌≡◌, ℕ, zero, suc, Bool, true, false, cond, ◌||◌, List, [], ◌∷◌, ◌++◌, map, replicate, length, Some, None, slice_get, refl, ap, sym, ◌∙◌, subst}
use Rattle.ap_list.specs.Lists.{Each, is_among, joined}
use Rattle.ap_value.proofs.Equals.{and_true}
use Rattle.ap_term.specs.declared.term.Term.{Term}
use Rattle.ap_term.specs.Equal.{term_eq}
use Rattle.ap_term.specs.Matching.{Pairs}
use Rattle.ap_term.specs.Terms.{subst_of}
use Rattle.ap_term.proofs.Equals.{term_eq-same}
use Rattle.ap_world.specs.Clauses.{conjuncts}
use Rattle.ap_world.specs.Holding.{KnownPairs}
use Rattle.ap_world.specs.Rules.{stated}
use Rattle.ap_world.specs.Sound.{known}
use Rattle.ap_world.specs.World.{Shown, function_of, theorem_of}
use Rattle.ap_poly.specs.Literals.{of_literal}
use Rattle.ap_poly.specs.Polynomials.{Polynomial}
use Rattle.ap_rules.specs.declared.linear.LinearRule.{LinearRule}
use Rattle.ap_kernel.specs.declared.linear.Why.{Why}
use Rattle.ap_kernel.specs.declared.linear.Why.TheVariants as why
use Rattle.ap_kernel.specs.declared.objects.Ctx.{Ctx}
use Rattle.ap_kernel.specs.declared.objects.Equiv.{Equiv}
use Rattle.ap_kernel.specs.Answers.{said}
use Rattle.ap_kernel.specs.Applying.{AllLead}
use Rattle.ap_kernel.specs.Certificates.{signed, conjunct_polys, theorem_polys, theorem_asks, all_shown}
use Rattle.ap_kernel.specs.Reasons.{AllGiven}
use Rattle.ap_kernel.specs.Sameness.{poly_eq}
use Rattle.ap_kernel.proofs.Candidate.{or_right}
use Rattle.ap_kernel.proofs.Derived.{facts_eq-is}
use Rattle.ap_kernel.proofs.Reasoned.{each_in, each_given, given_both, literal_given}
use Rattle.ap_rewrite.specs.declared.rules.Reliefs.{Reliefs}
use Rattle.ap_rewrite.specs.Answering.{Shows}
use Rattle.ap_rewrite.specs.Refuting.{IsToldBy}

among_left : (p : Polynomial) (ps qs : List Polynomial) → is_among poly_eq p ps ≡ true → is_among poly_eq p (ps ++ qs) ≡ true
among_left p [] qs h = cc
among_left p (q ∷ ps) qs h = go (poly_eq p q) h (λ k. among_left p ps qs k)
  where
    go : (b : Bool) → (b || is_among poly_eq p ps) ≡ true → (is_among poly_eq p ps ≡ true → is_among poly_eq p (ps ++ qs) ≡ true) → (b || is_among poly_eq p (ps ++ qs)) ≡ true
    go true e later = refl
    go false e later = later e

among_right : (p : Polynomial) (ps qs : List Polynomial) → is_among poly_eq p qs ≡ true → is_among poly_eq p (ps ++ qs) ≡ true
among_right p [] qs h = h
among_right p (q ∷ ps) qs h = or_right (poly_eq p q) (is_among poly_eq p (ps ++ qs)) (among_right p ps qs h)

among_place : (k : Term → List Polynomial) (us : List Term) (i : ℕ) (u : Term) → slice_get us i ≡ Some u → (p : Polynomial) → is_among poly_eq p (k u) ≡ true → is_among poly_eq p (joined (map k us)) ≡ true
among_place k [] i u e p h = absurd (no e)
  where
    no : None ≡ Some u → ⊥
    no q = cc
among_place k (v ∷ us) zero u e p h = let same : v ≡ u = cc in among_left p (k v) (joined (map k us)) (subst (λ x. is_among poly_eq p (k x) ≡ true) (sym same) h)
among_place k (v ∷ us) (suc i) u e p h = among_right p (k v) (joined (map k us)) (among_place k us i u e p h)

-- what leads to 'T, as the derivation's test asks it
leading : (c : Ctx) (s : Pairs) (hs : List Term) (qs : List Equiv) → AllLead c s hs qs → all_shown c (map (subst_of s) hs) (said qs) ≡ true
leading c s [] [] h = refl
leading c s (t ∷ hs) (q ∷ qs) h =
    and_true _ _ (and_true _ _ (facts_eq-is q.says.ctx.0 c.0 (ap (λ (d : Ctx). d.0) h.0.facts))
    (and_true _ _ (term_is q.says.lhs _ h.0.left) (term_is q.says.rhs _ h.0.right))) (leading c s hs qs h.1)
  where
    term_is : (a b : Term) → a ≡ b → term_eq a b ≡ true
    term_is a b e = subst (λ x. term_eq a x ≡ true) e (term_eq-same a)
leading c s [] (q ∷ qs) h = absurd h
leading c s (t ∷ hs) [] h = absurd h

pairs_terms_known : (w : Shown) (s : Pairs) → KnownPairs (function_of w.entries) s → Each (λ x. known (function_of w.entries) x ≡ true) (map (λ p. p.1) s)
pairs_terms_known w [] h = tt
pairs_terms_known w (p ∷ s) h = (h.0, pairs_terms_known w s h.1)

module _ (w : Shown) (c : Ctx) (u : Term) (s : Bool) where
  -- the instance of a rule whose hypotheses are relieved
  pub rule_given : (g : LinearRule) → IsToldBy w.entries g → (a : Pairs) (q : Reliefs) → Shows w c g.hyps a q
      → AllGiven w c u s (of_literal (subst_of q.pairs.0 g.concl) g.sign) (replicate (length (of_literal (subst_of q.pairs.0 g.concl) g.sign)) (why.Theorem g.theorem q.pairs q.shown))
  rule_given g told a q h =
      let z : Pairs = q.pairs.0 in
      let qs : List Polynomial = of_literal (subst_of z g.concl) g.sign in
      let is : conjunct_polys z told.conjunct ≡ qs = ap (λ (v : Term). of_literal (subst_of z v) (signed told.conjunct).1) (sym told.concl) ∙ ap (of_literal (subst_of z g.concl)) (sym told.sign) in
      let all : Each (λ p. is_among poly_eq p (joined (map (conjunct_polys z) (conjuncts (stated told.theorem.term).1))) ≡ true) qs =
      each_in qs _ (λ p k. among_place (conjunct_polys z) (conjuncts (stated told.theorem.term).1) told.place told.conjunct told.at p (subst (λ (ls : List Polynomial). is_among poly_eq p ls ≡ true) (sym is) k)) in
      let linear : theorem_polys z (Some told.theorem) ≡ joined (map (conjunct_polys z) (conjuncts (stated told.theorem.term).1)) = ap (λ b. cond b (joined (map (conjunct_polys z) (conjuncts (stated told.theorem.term).1))) []) told.linear in
      let there : theorem_polys z (theorem_of w.entries g.theorem) ≡ joined (map (conjunct_polys z) (conjuncts (stated told.theorem.term).1)) = ap (theorem_polys z) told.there ∙ linear in
      each_given w c u s (why.Theorem g.theorem q.pairs q.shown) (pairs_terms_known w z h.known)
      (subst (λ (hs : List Term). all_shown c hs (said q.shown) ≡ true) (ap (map (subst_of z)) told.hyps ∙ sym (ap (theorem_asks z) told.there)) (leading c z g.hyps q.shown h.lead))
      h.stand qs (subst (λ (ls : List Polynomial). Each (λ p. is_among poly_eq p ls ≡ true) qs) (sym there) all)

  pub with_rule : (g : LinearRule) → IsToldBy w.entries g → (a : Pairs) (q : Reliefs) → Shows w c g.hyps a q → (ps more : List Polynomial) (ys new : List Why)
      → more ≡ ps ++ of_literal (subst_of q.pairs.0 g.concl) g.sign
      → new ≡ ys ++ replicate (length (of_literal (subst_of q.pairs.0 g.concl) g.sign)) (why.Theorem g.theorem q.pairs q.shown)
      → AllGiven w c u s ps ys → AllGiven w c u s more new
  with_rule g told a q h ps more ys new pe ye k =
      subst (λ (zs : List Why). AllGiven w c u s more zs) (sym ye)
      (subst (λ (qs : List Polynomial). AllGiven w c u s qs (ys ++ replicate (length (of_literal (subst_of q.pairs.0 g.concl) g.sign)) (why.Theorem g.theorem q.pairs q.shown))) (sym pe)
      (given_both w c u s ps _ ys _ k (rule_given g told a q h)))

  -- the polynomials of the comparison come first
  pub begun_given : (ps : List Polynomial) (ys zs : List Why) → ps ≡ of_literal u s → ys ≡ [] → zs ≡ ys ++ replicate (length ps) why.Literal → AllGiven w c u s ps zs
  begun_given ps ys zs is none told =
      subst (λ (xs : List Why). AllGiven w c u s ps xs) (sym (told ∙ ap (λ (xs : List Why). xs ++ replicate (length ps) why.Literal) none))
      (subst (λ (qs : List Polynomial). AllGiven w c u s qs (replicate (length qs) why.Literal)) (sym is) (literal_given w c u s))
