use Rattle.std.proofs.Common.{◌≡◌, ◌∙◌, IfOk, List, refl, sym, subst}
use Rattle.ap_term.specs.Metered.{Got}
use Rattle.ap_poly.specs.Polynomials.{Polynomial}
use Rattle.ap_rewrite.specs.Answering.{got_polys}
use Rattle.ap_rewrite.proofs.Ruled.{taken, passed}
use Rattle.ap_rewrite.proofs.linear_rules.used.Goals as goal

pub returns-then-not-usable-clause-is : goal.returns-then-not-usable-clause-is
returns-then-not-usable-clause-is g c = passed _ _ _ _ (sym c.is_enabled-usable.ensures ∙ c.if-not-usable.true) refl

pub returns-clause-is : goal.returns-clause-is
returns-clause-is g c =
    subst (λ (x : Got (List Polynomial)). IfOk c.at_atoms.result (λ o. got_polys o c.at_atoms.new.steps.left ≡ x)) (taken _ _ _ _ (sym c.is_enabled-usable.ensures ∙ c.if-not-usable.false) refl)
    c.at_atoms.ensures.is
