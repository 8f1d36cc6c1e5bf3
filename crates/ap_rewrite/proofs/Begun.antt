-- Polynomials that are listed one after another: those of the facts, and what masks say of atoms.
use Rattle.std.proofs.Common.{◌≡◌, ℕ, ◌+◌, Bool, List, ◌∷◌, ◌++◌, drop, take, sym, ap, ◌∙◌, subst, append_assoc}
use Rattle.ap_term.specs.declared.term.Term.{Term}
use Rattle.ap_world.specs.Facts.{Facts}
use Rattle.ap_world.specs.World.{Shown}
use Rattle.ap_poly.specs.Polynomials.{Polynomial}
use Rattle.ap_kernel.specs.declared.linear.Why.{Why}
use Rattle.ap_kernel.specs.declared.objects.Ctx.{Ctx}
use Rattle.ap_kernel.specs.Reasons.{AllGiven}
use Rattle.ap_kernel.proofs.Reasoned.{given_first}
use Rattle.ap_rewrite.specs.Linear.{of_facts, bounds}
use Rattle.ap_rewrite.specs.Settings.{Setting}

pub facts_next : (S : Setting) (fs : Facts) (i : ℕ) (f : Term × Bool) (ps more qs all : List Polynomial) → drop i fs ≡ f ∷ drop (i + 1) fs → more ≡ S.arithmetic.of_literal f.0 f.1 → qs ≡ ps ++ more
    → ps ++ of_facts S (drop i fs) ≡ all → qs ++ of_facts S (drop (i + 1) fs) ≡ all
facts_next S fs i f ps more qs all at is made h =
    ap (λ xs. xs ++ of_facts S (drop (i + 1) fs)) (made ∙ ap (λ xs. ps ++ xs) is) ∙ append_assoc ps (S.arithmetic.of_literal f.0 f.1) (of_facts S (drop (i + 1) fs))
    ∙ ap (λ gs. ps ++ of_facts S gs) (sym at) ∙ h

pub bounds_next : (S : Setting) (fs : Facts) (us : List Term) (i : ℕ) (u : Term) (ps more qs all : List Polynomial) → drop i us ≡ u ∷ drop (i + 1) us → more ≡ S.arithmetic.bound u (S.types fs u) → qs ≡ ps ++ more
    → ps ++ bounds S fs (drop i us) ≡ all → qs ++ bounds S fs (drop (i + 1) us) ≡ all
bounds_next S fs us i u ps more qs all at is made h =
    ap (λ xs. xs ++ bounds S fs (drop (i + 1) us)) (made ∙ ap (λ xs. ps ++ xs) is) ∙ append_assoc ps (S.arithmetic.bound u (S.types fs u)) (bounds S fs (drop (i + 1) us))
    ∙ ap (λ vs. ps ++ bounds S fs vs) (sym at) ∙ h

-- the first of those that have their reasons
pub first_given : (w : Shown) (c : Ctx) (u : Term) (s : Bool) (n : ℕ) (ps qs : List Polynomial) (ys zs : List Why) → qs ≡ take n ps → zs ≡ take n ys → AllGiven w c u s ps ys → AllGiven w c u s qs zs
first_given w c u s n ps qs ys zs pe ye h =
    subst (λ (xs : List Why). AllGiven w c u s qs xs) (sym ye) (subst (λ (xs : List Polynomial). AllGiven w c u s xs (take n ys)) (sym pe) (given_first w c u s n ps ys h))
