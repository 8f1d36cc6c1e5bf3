-- Two calls of `not` taken off a term.
use Rattle.std.proofs.Common.{◌≡◌, Bool, true, false, cond, not, refl, sym, ap, ◌∙◌, subst}
use Rattle.ap_value.specs.Values.{value_eq}
use Rattle.ap_term.specs.declared.term.Term.{Term}
use Rattle.ap_world.specs.declared.entry.Mask.{Mask}
use Rattle.ap_world.specs.Primitives.{nil, t, truth}
use Rattle.ap_world.specs.Meaning.{Env, Defs, Total}
use Rattle.ap_world.specs.Clauses.{not_of}
use Rattle.ap_world.specs.Sound.{known}
use Rattle.ap_world.proofs.TotalMeaning.{Apply, Models, models, val, val_is}
use Rattle.ap_world.proofs.Starting.{val_not}
use Rattle.ap_kernel.specs.declared.objects.Ctx.{Ctx}
use Rattle.ap_kernel.specs.declared.objects.Mode.{Mode}
use Rattle.ap_kernel.specs.Standing.{DefinesNot, Same, Holds}
use Rattle.ap_world.specs.Facts.{KnownFacts}
use Rattle.ap_kernel.specs.Masks.{MaskHolds}
use Rattle.ap_kernel.specs.Choices.{is_truth, double_not_made}
use Rattle.ap_kernel.proofs.Standing.{stand}
use Rattle.ap_kernel.proofs.ChoicesStand.{not_nil, truth_same, known_not}

-- two calls of `not`, where only nil counts, or the argument is t or nil
pub double_not_stands : (D : Defs) → Total D → DefinesNot D → (c : Ctx) (m : Mode) (z : Term) (k : Mask) → KnownFacts D c.0 → known D z ≡ true → MaskHolds D c.0 z k → is_truth m k ≡ true
    → Holds D (double_not_made c m z)
double_not_stands D total ground c m z k facts z_known holds fits =
    let (A, ms) = models D total in
    stand D A ms (double_not_made c m z) facts (known_not D ground (not_of z) (known_not D ground z z_known)) z_known
    (λ e h. subst (λ x. Same m x (val A z e)) (sym (twice A ms e)) (truth_same m k (val A z e) fits (holds e h (val A z e) (val_is D A ms z z_known e))))
  where
    turned : (x : Bool) → truth (not x) ≡ cond x nil t
    turned true = refl
    turned false = refl

    twice : (A : Apply) → Models D A → (e : Env) → val A (not_of (not_of z)) e ≡ cond (value_eq (val A z e) nil) nil t
    twice A ms e = val_not D A ms ground (not_of z) e ∙ ap (λ v. truth (value_eq v nil)) (val_not D A ms ground z e) ∙ ap truth (not_nil (value_eq (val A z e) nil)) ∙ turned (value_eq (val A z e) nil)
