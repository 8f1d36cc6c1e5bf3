-- A level, as the code takes it.
use Rattle.std.proofs.Common.{◌≡◌, ℕ, zero, suc, ◌-◌, List, Option, None, Some, Result, IfOk, IfSome, refl, sym, ap, ◌∙◌, subst, arith}
use Rattle.std.specs.declared.alloc.AllocError.{AllocError}
use denote.Ref.{Bor}
use Rattle.ap_value.specs.declared.symbol.Symbol.{Symbol}
use Rattle.ap_value.specs.declared.value.Value.{Value}
use Rattle.ap_term.specs.declared.term.Term.{Term, Var, Quote, Call, out-Term}
use Rattle.ap_term.specs.declared.term.Term.TheOpen.{Term-F}
use Rattle.ap_term.specs.declared.term.Term.TheVariants.{outs-Var, outs-Quote, outs-Call}
use Rattle.ap_term.specs.Metered.{Got, known as answer}
use Rattle.ap_world.specs.Shapes.{shape_of}
use Rattle.ap_world.specs.World.{Shown}
use Rattle.ap_kernel.specs.declared.objects.Ctx.{Ctx}
use Rattle.ap_kernel.specs.declared.objects.Mode.{Mode}
use Rattle.ap_kernel.specs.declared.objects.Equiv.{Equiv}
use Rattle.ap_world.specs.declared.shapes.ShapeRef.{ShapeRef}
use Rattle.ap_world.specs.declared.shapes.ShapeRef.TheVariants as lent
use Rattle.ap_world.specs.Lent.{seen}
use Rattle.ap_rewrite.specs.Settings.{Setting, Place, Inner}
use Rattle.ap_rewrite.specs.Rewriting.{settled, constant_in, rewrite_call, rewrite_parts, rewrite_shape, rewrite_to}
use Rattle.ap_rewrite.specs.Answering.{From, got}

-- no step is left
pub no_step : (S : Setting) (d : ℕ) (o : Mode) (p : Place) (u : Term) (n : ℕ) → n ≡ 0 → None ≡ rewrite_to S d o p u n
unfolding rewrite_to
no_step S zero o p u zero h = refl
no_step S (suc d) o p u zero h = refl
no_step S d o p u (suc n) h = absurd (omega (arith, h))

-- no level is left
pub no_level : (S : Setting) (d : ℕ) (o : Mode) (p : Place) (u : Term) (n : ℕ) → d ≡ 0 → (n ≡ 0 → ⊥) → ◌≡◌ {A = Got Term} (Some (u, n - 1)) (rewrite_to S d o p u n)
unfolding rewrite_to
no_level S zero o p u zero h k = absurd (k refl)
no_level S zero o p u (suc n) h k = let e : suc n - 1 ≡ n = omega arith in rw e refl
no_level S (suc d) o p u n h k = absurd (omega (arith, h))

-- a step is spent, and the parts have one level less
pub level_is : (S : Setting) (d : ℕ) (o : Mode) (p : Place) (u : Term) (n : ℕ) → (d ≡ 0 → ⊥) → (n ≡ 0 → ⊥)
    → rewrite_to S d o p u n ≡ rewrite_shape S (rewrite_to S (d - 1)) o p u (shape_of u) (n - 1)
unfolding rewrite_to
level_is S zero o p u n h k = absurd (h refl)
level_is S (suc d) o p u zero h k = absurd (k refl)
level_is S (suc d) o p u (suc n) h k = let e : suc n - 1 ≡ n = omega arith in let f : suc d - 1 ≡ d = omega arith in rw (e, f) refl

-- a term that is no `if` and no negation
pub parts_at : (S : Setting) (r : Inner) (o : Mode) (p : Place) (u : Term) (y : ShapeRef) (n : ℕ) → seen y ≡ shape_of u
    → ((a b c : Bor Term) → y ≡ lent.If a b c → ⊥) → ((a : Bor Term) → y ≡ lent.Not a → ⊥)
    → rewrite_parts S r o p u (out-Term u) n ≡ rewrite_shape S r o p u (shape_of u) n
parts_at S r o p u (lent.If a b c) n e h k = absurd (h a b c refl)
parts_at S r o p u (lent.Not a) n e h k = absurd (k a refl)
parts_at S r o p u (lent.Constant v) n e h k = ap (λ z. rewrite_shape S r o p u z n) e
parts_at S r o p u (lent.Equal a b) n e h k = ap (λ z. rewrite_shape S r o p u z n) e
parts_at S r o p u (lent.Cons a b) n e h k = ap (λ z. rewrite_shape S r o p u z n) e
parts_at S r o p u lent.Other n e h k = ap (λ z. rewrite_shape S r o p u z n) e

-- a variable, a constant, and a call
module _ (S : Setting) (r : Inner) (o : Mode) (p : Place) (u : Term) (n : ℕ) where
  abbrev by_parts : Term-F Term → Got Term
  by_parts y = rewrite_parts S r o p u y n

  pub var_is : (x : Symbol) (v : Term) → u ≡ Var x → v ≡ settled S o p.facts u → ◌≡◌ {A = Got Term} (Some (v, n)) (rewrite_parts S r o p u (out-Term u) n)
  var_is x v e h = ap (λ (t : Term). answer t n) h ∙ ap by_parts (sym (ap out-Term e ∙ outs-Var x))

  pub quote_is : (x : Value) (v : Term) → u ≡ Quote x → v ≡ constant_in o x → ◌≡◌ {A = Got Term} (Some (v, n)) (rewrite_parts S r o p u (out-Term u) n)
  quote_is x v e h = ap (λ (t : Term). answer t n) h ∙ ap by_parts (sym (ap out-Term e ∙ outs-Quote x))

  pub call_is : (f : Symbol) (us : List Term) → u ≡ Call f us → rewrite_call S r o p f us n ≡ rewrite_parts S r o p u (out-Term u) n
  call_is f us e = ap by_parts (sym (ap out-Term e ∙ outs-Call f us))

-- what is answered where the definition's answer is the same, and from the same term
pub same_got : (x : Result (Option Equiv) AllocError) (m : ℕ) (g h : Got Term) → g ≡ h → IfOk x (λ o. got o m ≡ g) → IfOk x (λ o. got o m ≡ h)
same_got x m g h e k = subst (λ (y : Got Term). IfOk x (λ o. got o m ≡ y)) e k

pub same_start : (w : Shown) (o : Mode) (c : Ctx) (u v : Term) (x : Result (Option Equiv) AllocError) → u ≡ v → IfOk x (λ y. IfSome y (From w o c u)) → IfOk x (λ y. IfSome y (From w o c v))
same_start w o c u v x e h = subst (λ (t : Term). IfOk x (λ y. IfSome y (From w o c t))) e h
