-- Linear arithmetic within rewriting: what is refuted, and what that decides. Of polynomials it knows what the
-- setting's arithmetic says.
use Rattle.std.specs.Prelude.{ℕ, nat_le, Bool, true, false, cond, not, ◌&&◌, List, [], ◌∷◌, ◌++◌, take, length, Option, Some, None}
use Rattle.ap_value.specs.declared.symbol.Symbol.{Symbol}
use Rattle.ap_term.specs.declared.term.Term.{Term, Call}
use Rattle.ap_term.specs.Terms.{subst_of}
use Rattle.ap_world.specs.declared.primitive.Primitive.{Primitive as Prim}
use Rattle.ap_world.specs.declared.primitive.Primitive.TheVariants as prim
use Rattle.ap_world.specs.Kinds.{without}
use Rattle.ap_world.specs.Primitives.{prim_of}
use Rattle.ap_world.specs.Facts.{Facts}
use Rattle.ap_world.specs.Types.{integers}
use Rattle.ap_kernel.specs.Equations.{truth_constant}
use Rattle.ap_kernel.specs.Linear.{less_of}
use Rattle.ap_term.specs.Metered.{By, known, after}
use Rattle.ap_term.specs.Matching.{Pairs, matched}
use Rattle.ap_poly.specs.Polynomials.{Polynomial}
use Rattle.ap_poly.specs.Bounds.{lacks}
use Rattle.ap_rules.specs.declared.linear.LinearRule.{LinearRule}
use Rattle.ap_rewrite.specs.Settings.{Setting, Place, Inner}
use Rattle.ap_rewrite.specs.Relieving.{relieve}

abbrev pub most_polys : ℕ
most_polys = 32

abbrev pub or_refuted : Term → Bool → Bool → By (Option Term)
or_refuted u s true n = known (Some (truth_constant (not s))) n
or_refuted u s false n = known None n

abbrev pub then_refuted : Bool → By (Option Term) → By (Option Term)
then_refuted true k = known (Some (truth_constant true))
then_refuted false k = k

-- both orders are refuted, the second tried only where the first is
abbrev pub if_refuted : Bool → By Bool → By Bool
if_refuted true k = k
if_refuted false k = known false

module _ (S : Setting) where
  abbrev pub of_facts : Facts → List Polynomial
  of_facts [] = []
  of_facts (f ∷ fs) = S.arithmetic.of_literal f.0 f.1 ++ of_facts fs

  abbrev pub bounds : Facts → List Term → List Polynomial
  bounds fs [] = []
  bounds fs (x ∷ xs) = S.arithmetic.bound x (S.types fs x) ++ bounds fs xs

  abbrev pub given : Facts → Term → Bool → List Polynomial
  given fs u s = S.arithmetic.of_literal u s ++ of_facts fs

  -- a rule at an atom that its trigger matches
  abbrev pub with_instance : LinearRule → List Polynomial → Option Pairs → List Polynomial
  with_instance g ps None = ps
  with_instance g ps (Some s) = ps ++ S.arithmetic.of_literal (subst_of s g.concl) g.sign

  abbrev pub are_integers : Facts → Term → Term → Bool
  are_integers fs a b = lacks (S.types fs a) (without integers.0) && lacks (S.types fs b) (without integers.0)

  module _ (r : Inner) (p : Place) where
    abbrev pub at_match : LinearRule → List Polynomial → Option Pairs → By (List Polynomial)
    at_match g ps None n = known ps n
    at_match g ps (Some s) n = after (relieve r p g.hyps s n) (λ o. known (with_instance g ps o))

    abbrev pub at_atoms : LinearRule → List Term → List Polynomial → By (List Polynomial)
    at_atoms g [] ps n = known ps n
    at_atoms g (x ∷ xs) ps n = cond (nat_le most_polys (length ps)) (known ps n) (after (at_match g ps (matched g.trigger x []) n) (at_atoms g xs))

    abbrev pub with_rules : List LinearRule → List Term → List Polynomial → By (List Polynomial)
    with_rules [] xs ps n = known ps n
    with_rules (g ∷ gs) xs ps n = after (at_atoms g xs ps n) (with_rules gs xs)

    abbrev pub from_given : List Polynomial → List Term → By Bool
    from_given ps xs n = after (with_rules S.arithmetic.rules xs (ps ++ bounds p.facts xs) n) (λ qs. known (S.arithmetic.refutes (take most_polys qs)))

    -- whether the literal that the term has this sign is refuted
    abbrev pub refuted : Term → Bool → By Bool
    refuted u s n = from_given (given p.facts u s) (S.arithmetic.atoms_of (given p.facts u s)) n

    -- 'NIL where a term is refuted
    abbrev pub by_truth : Term → By (Option Term)
    by_truth u n = after (refuted u true n) (or_refuted u true)

    -- (< a b): 'T where its negation is refuted, else 'NIL where it is
    abbrev pub by_less : Term → By (Option Term)
    by_less u n = after (refuted u false n) (λ b. then_refuted b (by_truth u))

    -- neither of two terms is less
    abbrev pub by_orders : Term → Term → By Bool
    by_orders a b n = after (refuted (less_of a b) true n) (λ c. if_refuted c (refuted (less_of b a) true))

    -- (equal a b): 'T where neither is less, else 'NIL where it is refuted
    abbrev pub by_equal : Term → Term → Term → By (Option Term)
    by_equal u a b n = after (by_orders a b n) (λ c. then_refuted c (by_truth u))

    abbrev pub by_equation : Term → Term → Term → By (Option Term)
    by_equation u a b n = cond (are_integers p.facts a b) (by_equal u a b n) (known None n)

    abbrev pub by_pair : Term → Option Prim → Term → Term → By (Option Term)
    by_pair u (Some prim.Less) a b n = by_less u n
    by_pair u (Some prim.Equal) a b n = by_equation u a b n
    by_pair u o a b n = known None n

    -- what is tried on a call between its equation (`equate`) and the rules
    abbrev pub by_arithmetic : Symbol → List Term → By (Option Term)
    by_arithmetic f (a ∷ b ∷ []) n = by_pair (Call f (a ∷ b ∷ [])) (prim_of f) a b n
    by_arithmetic f us n = known None n
