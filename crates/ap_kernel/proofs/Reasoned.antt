-- Polynomials that have their reasons: of two lists, of the first of a list, and of a literal, a fact and the types of an atom.
use Rattle.std.proofs.Common.{◌≡◌, ℕ, zero, suc, Bool, true, List, [], ◌∷◌, ◌++◌, replicate, take, length, Some, slice_get, refl, sym, subst}
use Rattle.ap_list.specs.Lists.{Each, is_among}
use Rattle.ap_value.proofs.Equals.{and_true, int_eq-same}
use Rattle.ap_term.specs.declared.term.Term.{Term}
use Rattle.ap_term.proofs.Equals.{term_eq-same}
use Rattle.ap_world.specs.Sound.{known}
use Rattle.ap_world.specs.Typing.{types}
use Rattle.ap_world.specs.World.{Shown, function_of}
use Rattle.ap_poly.specs.Bounds.{bound}
use Rattle.ap_poly.specs.Literals.{of_literal}
use Rattle.ap_poly.specs.Polynomials.{Parts, Polynomial}
use Rattle.ap_kernel.specs.declared.linear.Why.{Why}
use Rattle.ap_kernel.specs.declared.linear.Why.TheVariants as why
use Rattle.ap_kernel.specs.declared.objects.Ctx.{Ctx}
use Rattle.ap_kernel.specs.Answers.{said}
use Rattle.ap_kernel.specs.Certificates.{polys_of, asks_of, all_shown, source_of, shown_of, source_terms, fact_polys}
use Rattle.ap_kernel.specs.Reasons.{AllGiven}
use Rattle.ap_kernel.specs.Sameness.{parts_eq, poly_eq}
use Rattle.ap_kernel.specs.Standing.{Stands}
use Rattle.ap_kernel.proofs.Candidate.{or_left, or_right}

parts_same : (ps : Parts) → parts_eq ps ps ≡ true
parts_same [] = refl
parts_same (p ∷ ps) = and_true _ _ (and_true _ _ (term_eq-same p.0) (int_eq-same p.1)) (parts_same ps)

poly_same : (p : Polynomial) → poly_eq p p ≡ true
poly_same p = and_true _ _ (int_eq-same p.constant) (parts_same p.parts)

-- each of some polynomials is among others that have all of them
pub each_in : (qs ls : List Polynomial) → ((p : Polynomial) → is_among poly_eq p qs ≡ true → is_among poly_eq p ls ≡ true) → Each (λ p. is_among poly_eq p ls ≡ true) qs
each_in [] ls h = tt
each_in (q ∷ qs) ls h = (h q (or_left (poly_eq q q) (is_among poly_eq q qs) (poly_same q)), each_in qs ls (λ p k. h p (or_right (poly_eq p q) (is_among poly_eq p qs) k)))

each_among : (qs : List Polynomial) → Each (λ p. is_among poly_eq p qs ≡ true) qs
each_among qs = each_in qs qs (λ p h. h)

module _ (w : Shown) (c : Ctx) (u : Term) (s : Bool) where
  -- those of two lists, and the first of them
  pub given_both : (ps qs : List Polynomial) (ys zs : List Why) → AllGiven w c u s ps ys → AllGiven w c u s qs zs → AllGiven w c u s (ps ++ qs) (ys ++ zs)
  given_both [] qs [] zs h k = k
  given_both (p ∷ ps) qs (y ∷ ys) zs h k = (h.0, given_both ps qs ys zs h.1 k)
  given_both [] qs (y ∷ ys) zs h k = absurd h
  given_both (p ∷ ps) qs [] zs h k = absurd h

  pub given_first : (n : ℕ) (ps : List Polynomial) (ys : List Why) → AllGiven w c u s ps ys → AllGiven w c u s (take n ps) (take n ys)
  given_first zero ps ys h = tt
  given_first (suc n) [] [] h = tt
  given_first (suc n) (p ∷ ps) (y ∷ ys) h = (h.0, given_first n ps ys h.1)
  given_first (suc n) [] (y ∷ ys) h = absurd h
  given_first (suc n) (p ∷ ps) [] h = absurd h

  -- one reason for all of a list
  pub each_given : (y : Why) → Each (λ x. known (function_of w.entries) x ≡ true) (source_terms (source_of y)) → all_shown c (asks_of w (source_of y)) (said (shown_of y)) ≡ true
      → Each (Stands w) (shown_of y) → (qs : List Polynomial) → Each (λ p. is_among poly_eq p (polys_of w c u s (source_of y)) ≡ true) qs → AllGiven w c u s qs (replicate (length qs) y)
  each_given y terms shown stand [] h = tt
  each_given y terms shown stand (q ∷ qs) h = (record { terms = terms; comes = h.0; shown = shown; stand = stand }, each_given y terms shown stand qs h.1)

  pub literal_given : AllGiven w c u s (of_literal u s) (replicate (length (of_literal u s)) why.Literal)
  literal_given = each_given why.Literal tt refl tt (of_literal u s) (each_among (of_literal u s))

  pub fact_given : (i : ℕ) (f : Term × Bool) → slice_get c.0 i ≡ Some f → AllGiven w c u s (of_literal f.0 f.1) (replicate (length (of_literal f.0 f.1)) (why.Fact i))
  fact_given i f e =
      each_given (why.Fact i) tt refl tt (of_literal f.0 f.1) (subst (λ o. Each (λ p. is_among poly_eq p (fact_polys o) ≡ true) (of_literal f.0 f.1)) (sym e) (each_among (of_literal f.0 f.1)))

  pub bound_given : (x : Term) (m : ℕ) → known (function_of w.entries) x ≡ true → m ≡ types w c.0 x → AllGiven w c u s (bound x m) (replicate (length (bound x m)) (why.Bound x))
  bound_given x m k e =
      each_given (why.Bound x) (k, tt) refl tt (bound x m) (subst (λ n. Each (λ p. is_among poly_eq p (bound x n) ≡ true) (bound x m)) e (each_among (bound x m)))

  -- what is added behind
  pub more_given : (ps more qs : List Polynomial) (ys ws zs : List Why) → AllGiven w c u s more ws → qs ≡ ps ++ more → zs ≡ ys ++ ws → AllGiven w c u s ps ys → AllGiven w c u s qs zs
  more_given ps more qs ys ws zs h pe ye k =
      subst (λ (zs : List Why). AllGiven w c u s qs zs) (sym ye) (subst (λ (qs : List Polynomial). AllGiven w c u s qs (ys ++ ws)) (sym pe) (given_both ps more ys ws k h))

  pub bounds_given : (x : Term) (m : ℕ) (more : List Polynomial) → known (function_of w.entries) x ≡ true → m ≡ types w c.0 x → more ≡ bound x m → AllGiven w c u s more (replicate (length more) (why.Bound x))
  bounds_given x m more k e is = subst (λ (qs : List Polynomial). AllGiven w c u s qs (replicate (length qs) (why.Bound x))) (sym is) (bound_given x m k e)

  pub facts_given : (i : ℕ) (f : Term × Bool) (more : List Polynomial) → slice_get c.0 i ≡ Some f → more ≡ of_literal f.0 f.1 → AllGiven w c u s more (replicate (length more) (why.Fact i))
  facts_given i f more e is = subst (λ (qs : List Polynomial). AllGiven w c u s qs (replicate (length qs) (why.Fact i))) (sym is) (fact_given i f e)
