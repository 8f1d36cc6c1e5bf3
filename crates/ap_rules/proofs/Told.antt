-- A conjunct that isn't a call of `not` on one argument is told as it stands.
use Rattle.std.proofs.Common.{◌≡◌, ◌<◌, ◌≤◌, Bool, true, false, List, [], ◌∷◌, length, refl, ap, sym, ◌∙◌, arith}
use Rattle.ap_value.specs.declared.symbol.Symbol.{Symbol}
use Rattle.ap_value.specs.Values.{symbol_eq}
use Rattle.ap_term.specs.declared.term.Term.{Term, out-Term, Call}
use Rattle.ap_term.specs.declared.term.Term.TheVariants.{outs-Call}
use Rattle.ap_world.specs.Names.{not_name}
use Rattle.ap_poly.specs.Literals.{of_literal}
use Rattle.ap_rules.specs.Shapes.{signed_by, signed_in, told}

told_by : (u : Term) (f : Symbol) (ts : List Term) → u ≡ Call f ts → signed_by (symbol_eq f not_name) ts u ≡ (u, true) → told u ≡ of_literal u true
told_by u f ts is alone = ap (λ s. of_literal s.0 s.1) (ap (λ y. signed_in y u) (ap out-Term is ∙ outs-Call f ts) ∙ alone)

no_argument : (b : Bool) (ts : List Term) (u : Term) → length ts < 1 → signed_by b ts u ≡ (u, true)
no_argument true [] u h = refl
no_argument true (a ∷ ts) u h = absurd (omega arith)
no_argument false ts u h = refl

more_arguments : (b : Bool) (ts : List Term) (u : Term) → 2 ≤ length ts → signed_by b ts u ≡ (u, true)
more_arguments true [] u h = refl
more_arguments true (a ∷ []) u h = absurd (omega arith)
more_arguments true (a ∷ b ∷ ts) u h = refl
more_arguments false ts u h = refl

pub told_empty : (u : Term) (f : Symbol) (ts us : List Term) → u ≡ Call f ts → us ≡ ts → length us < 1 → told u ≡ of_literal u true
told_empty u f ts us is lent few = told_by u f ts is (ap (λ vs. signed_by (symbol_eq f not_name) vs u) (sym lent) ∙ no_argument (symbol_eq f not_name) us u few)

pub told_more : (u : Term) (f : Symbol) (ts us : List Term) → u ≡ Call f ts → us ≡ ts → 2 ≤ length us → told u ≡ of_literal u true
told_more u f ts us is lent many = told_by u f ts is (ap (λ vs. signed_by (symbol_eq f not_name) vs u) (sym lent) ∙ more_arguments (symbol_eq f not_name) us u many)

pub told_other : (u : Term) (f : Symbol) (ts : List Term) → u ≡ Call f ts → symbol_eq f not_name ≡ false → told u ≡ of_literal u true
told_other u f ts is other = told_by u f ts is (ap (λ b. signed_by b ts u) other)
