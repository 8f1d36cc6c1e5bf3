-- What is stated again by the parts that state it.
use Rattle.std.proofs.Common.{◌≡◌, ℕ, Bool, List, Some, Result, IfOk, refl, ap, sym, ◌∙◌, subst}
use Rattle.std.specs.Prelude.{codes}
use Rattle.ap_world.specs.Sound.{HasFunctions}
use Rattle.ap_world.specs.World.{Shown, function_of}
use Rattle.ap_plain.specs.declared.end.Outcome.{Outcome}
use Rattle.ap_plain.specs.declared.proposing.Proposal.{Proposal}
use Rattle.ap_plain.specs.Ends.{Did}
use Rattle.ap_plain.specs.Proposals.{proposed_theorem, proposed_definition, IsStated}
use Rattle.ap_stated.specs.Refusals.{Answer}
use Rattle.ap_stated.specs.Shapes.{Stated, Defined}
use Rattle.ap_stated.specs.Texts.{title}
use Rattle.ap_events.specs.Books.{put_again, theorem_again, definition_again}
use Rattle.ap_events.proofs.Doing.{IsBacked}

pub theorem_is : (w : Shown) (enabled : Bool) (s : Stated) (t : List ℕ) (a : Answer Proposal) → t ≡ title (codes "DEFTHM") s.name → a ≡ proposed_theorem w s
    → put_again w t enabled a ≡ theorem_again w enabled (Some s)
unfolding theorem_again
theorem_is w enabled s t a titled stated = ap (λ x. put_again w x enabled a) titled ∙ ap (put_again w (title (codes "DEFTHM") s.name) enabled) stated

-- the world in which a definition is stated is as it was
module _ (w x : Shown) (enabled : Bool) (d : Defined) (t : List ℕ) (a : Answer Proposal) (same : x ≡ w) (titled : t ≡ title (codes "DEFUN") d.name) (stated : a ≡ proposed_definition w d) where
  definition_is : put_again w t enabled a ≡ definition_again w enabled (Some d)
  unfolding definition_again
  definition_is = ap (λ y. put_again w y enabled a) titled ∙ ap (put_again w (title (codes "DEFUN") d.name) enabled) stated

  pub definition_backed : IsBacked (definition_again w enabled (Some d)) w → IsBacked (put_again x t enabled a) x
  definition_backed b = subst (λ (y : Shown). IsBacked (put_again y t enabled a) y) (sym same) (subst (λ e. IsBacked e w) (sym definition_is) b)

  pub definition_did : {E : Type 0} (r : Result Outcome E) (v : Shown) → IfOk r (Did (put_again x t enabled a) x v) → IfOk r (Did (definition_again w enabled (Some d)) w v)
  definition_did r v h = subst (λ e. IfOk r (Did e w v)) definition_is (subst (λ (y : Shown). IfOk r (Did (put_again y t enabled a) y v)) same h)

pub functions_there : (w x : Shown) → x ≡ w → HasFunctions (function_of w.entries) → HasFunctions (function_of x.entries)
functions_there w x same h = subst (λ (y : Shown). HasFunctions (function_of y.entries)) (sym same) h

pub stated_there : (w x : Shown) (a : Answer Proposal) → x ≡ w → IfOk a (IsStated w) → IfOk a (IsStated x)
stated_there w x a same h = subst (λ y. IfOk a (IsStated y)) (sym same) h
