-- What by_certificate asks of the polynomials that it is handed: each has its reason.
use Rattle.std.specs.Prelude.{◌≡◌, Bool, true, List, [], ◌∷◌}
use Rattle.ap_list.specs.Lists.{Each, is_among}
use Rattle.ap_term.specs.declared.term.Term.{Term}
use Rattle.ap_world.specs.Sound.{known}
use Rattle.ap_world.specs.World.{Shown, function_of}
use Rattle.ap_poly.specs.Polynomials.{Polynomial}
use Rattle.ap_kernel.specs.declared.linear.Why.{Why}
use Rattle.ap_kernel.specs.declared.objects.Ctx.{Ctx}
use Rattle.ap_kernel.specs.Certificates.{polys_of, asks_of, all_shown, source_of, shown_of, source_terms}
use Rattle.ap_kernel.specs.Sameness.{poly_eq}
use Rattle.ap_kernel.specs.Saying.{said}
use Rattle.ap_kernel.specs.Standing.{Stands}

-- a polynomial is one of those that its reason's source gives, whose terms are the world's; and a theorem's hypotheses
-- are shown by equivalences that stand
pub record Given (w : Shown) (c : Ctx) (u : Term) (s : Bool) (p : Polynomial) (y : Why) : Type 0 where
  pub terms : Each (λ x. known (function_of w.entries) x ≡ true) (source_terms (source_of y))
  pub comes : is_among poly_eq p (polys_of w c u s (source_of y)) ≡ true
  pub shown : all_shown c (asks_of w (source_of y)) (said (shown_of y)) ≡ true
  pub stand : Each (Stands w) (shown_of y)

-- one reason for each
abbrev pub AllGiven : Shown → Ctx → Term → Bool → List Polynomial → List Why → Type 0
AllGiven w c u s [] [] = Unit {0}
AllGiven w c u s (p ∷ ps) (y ∷ ys) = Given w c u s p y × AllGiven w c u s ps ys
AllGiven w c u s ps ys = ⊥
