-- A literal that is in plain form at sight is its own plain form.
use Rattle.std.proofs.Common.{◌≡◌, ap, sym, ◌∙◌, refl, Bool, true, false, not}
use Rattle.ap_term.specs.declared.term.Term.{Term}
use Rattle.ap_world.specs.Shapes.{Shape, constant, choice, negation, equation, pair, other, shape_of}
use Rattle.ap_world.proofs.Shaped.{Says, shape_says}
use Rattle.ap_kernel.specs.Choices.{bare}
use Rattle.ap_kernel.specs.Tidying.{negated_bare, plain_by, plain, is_bare, is_plain}
use Rattle.ap_kernel.proofs.ChoicesStand.{bare_of, bare_is, bare_not}

bare_itself : (u : Term) → is_bare (shape_of u) ≡ true → bare u ≡ (u, false)
bare_itself u h = bare_is u ∙ go (shape_of u) h
  where
    go : (y : Shape Term) → is_bare y ≡ true → bare_of u y ≡ (u, false)
    go (negation a) k = cc
    go y k = refl

negated : (u : Term) (y : Shape Term) → is_bare y ≡ true → negated_bare y u ≡ negated_bare other u
negated u (constant v) k = cc
negated u (negation a) k = cc
negated u y k = refl

pub plain_is : (u : Term) → is_plain (shape_of u) ≡ true → plain u ≡ u
plain_is u h = go (shape_of u) refl (shape_says u) h
  where
    go : (y : Shape Term) → shape_of u ≡ y → Says u y → is_plain y ≡ true → plain u ≡ u
    go (negation a) e s k =
        ap plain_by (bare_not u a e ∙ ap (λ (p : Term × Bool). (p.0, not p.1)) (bare_itself a k)) ∙ negated a (shape_of a) k ∙ sym s
    go (constant v) e s k = ap plain_by (bare_is u ∙ ap (bare_of u) e)
    go (choice a b c) e s k = ap plain_by (bare_is u ∙ ap (bare_of u) e)
    go (equation a b) e s k = ap plain_by (bare_is u ∙ ap (bare_of u) e)
    go (pair a b) e s k = ap plain_by (bare_is u ∙ ap (bare_of u) e)
    go other e s k = ap plain_by (bare_is u ∙ ap (bare_of u) e)
